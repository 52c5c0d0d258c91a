-- The tokens of a text in their order, and what they leave in the slots once their names are numbered.
use mathlib.Core.Path.{◌≡◌, refl, sym, ◌∙◌, ap, subst}
use mathlib.Core.List.{List, [], ◌∷◌, ◌++◌}
use Prim.Native.Nat.{ℕ, zero, suc, ◌+◌, ◌-◌, ◌<◌, ◌≤◌}
use native.Mathlib.Omega.{arith}
use lib.ListN.{length, get_or, length-set}
use lib.Seq.{get_or-set_same, get_or-set_other}
use Rattle.lexer.specs.Token.{lexeme_at}
use Rattle.lexer.specs.Tokens.{Placed, placed, Lexed, tokens, bad_at, after, tokens_from, tokens_of}
use Rattle.lexer.specs.Tokens as lexed
use Rattle.lexer.specs.declared.token.Token.{Token}
use Rattle.lexer.specs.declared.token.Token.TheVariants.{Number, String, Variable, Word, Punctuator}
use Rattle.lexer.specs.declared.token.Lexeme.{Lexeme}
use Rattle.lexer.specs.declared.token.Lexeme.TheVariants.{Found, Bad, End}
use Rattle.lexer.proofs.Found.{found-again}
use Rattle.lexer.proofs.OnDemand.{on-demand}
use Rattle.tree.specs.Slots.{word, variable_tag}
use Rattle.checker.specs.Name.{name_in, end_of, name_at, numbered, resolved_from, resolved_slots}
use Rattle.checker.specs.Inner.{Stands}
use Rattle.checker.proofs.Law.Names.{found-ahead, found-stands, no_step, one-step}

-- ---- tokens in their order

-- each token stands in the text, at the end of the one before or after it
abbrev pub Rising : List ℕ → ℕ → List Placed → Type 0
Rising text lo [] = Unit {0}
Rising text lo (placed t at end ∷ ts) = (lo ≤ at) × Stands text t at end × (lexeme_at text at ≡ Found t at end) × Rising text end ts

-- the slots after some tokens
abbrev pub numbered_all : (List ℕ → ℕ) → List ℕ → List Placed → List ℕ → List ℕ
numbered_all number text [] w = w
numbered_all number text (placed t at end ∷ ts) w = numbered_all number text ts (numbered number text t at end w)

module _ (number : List ℕ → ℕ) (text : List ℕ) where
  -- the tokens from a place on rise, and with n steps each of them is numbered
  record Listed (n from : ℕ) (ts : List Placed) : Type 0 where
    rising : Rising text from ts
    are : (w : List ℕ) → resolved_from number text n from w ≡ numbered_all number text ts w

  abbrev ListedIn : ℕ → ℕ → Lexed → Type 0
  ListedIn n from (tokens ts) = Listed n from ts
  ListedIn n from (bad_at p) = Unit {0}

  -- what stands at a place, and then the rest
  ended : (n from : ℕ) → lexeme_at text from ≡ End → Listed n from []
  ended zero from e = record { rising = tt; are = λ w. no_step number text from w }
  ended (suc n) from e = record { rising = tt; are = λ w. one-step number text from w n End e }

  begun : (n from : ℕ) (t : Token) (at end : ℕ) → lexeme_at text from ≡ Found t at end → (l : Lexed) → ListedIn n end l → ListedIn (suc n) from (after (placed t at end) l)
  begun n from t at end e (tokens ts) h = record {
    rising = ((found-ahead text from (Found t at end) (sym e) t at end refl).starts, found-stands text from (Found t at end) (sym e) t at end refl, found-again text from t at end e, h.rising);
    are = λ w. one-step number text from w n (Found t at end) e ∙ h.are (numbered number text t at end w);
  }
  begun n from t at end e (bad_at p) h = tt

  -- past the end no token stands
  none-listed : (from : ℕ) (x : Lexeme) → lexeme_at text from ≡ x → length text ≤ from → ListedIn zero from (lexed.onward x (tokens_from text))
  none-listed from (Found t at end) e room = absurd (omega (arith, found-ahead text from (Found t at end) (sym e) t at end refl))
  none-listed from (Bad at end) e room = tt
  none-listed from End e room = ended zero from e

  some-listed : (n from : ℕ) (x : Lexeme) → lexeme_at text from ≡ x → ((end : ℕ) → from < end → ListedIn n end (tokens_from text end)) → ListedIn (suc n) from (lexed.onward x (tokens_from text))
  some-listed n from (Found t at end) e rest = begun n from t at end e (tokens_from text end) (rest end (omega (arith, found-ahead text from (Found t at end) (sym e) t at end refl)))
  some-listed n from (Bad at end) e rest = tt
  some-listed n from End e rest = ended (suc n) from e

  listed : (n from : ℕ) → length text ≤ n + from → ListedIn n from (tokens_from text from)
  listed zero from room = rw (on-demand text from) (none-listed from (lexeme_at text from) refl (omega arith))
  listed (suc n) from room = rw (on-demand text from) (some-listed n from (lexeme_at text from) refl (λ end later. listed n end (omega arith)))

  pub tokens-listed : (ts : List Placed) → tokens_of text ≡ tokens ts → Rising text 0 ts × ((w : List ℕ) → resolved_slots number text w ≡ numbered_all number text ts w)
  tokens-listed ts e = let l : Listed (length text) 0 ts = subst (ListedIn (length text) 0) e (listed (length text) 0 (omega arith)) in (l.rising, l.are)

-- ---- the slots of one token

-- a token that is no variable
abbrev pub Other : Token → Type 0
Other (Number n k) = Unit {0}
Other String = Unit {0}
Other Variable = ⊥
Other (Word k) = Unit {0}
Other (Punctuator k) = Unit {0}

module _ (number : List ℕ → ℕ) (text : List ℕ) where
  -- every slot but a variable's own is as it was
  numbered-other : (t : Token) (at end i : ℕ) (w : List ℕ) → (t ≡ Variable → i ≡ at → ⊥) → get_or (numbered number text t at end w) i 0 ≡ get_or w i 0
  numbered-other (Number n k) at end i w h = refl
  numbered-other String at end i w h = refl
  numbered-other Variable at end i w h = get_or-set_other w at i (word variable_tag (number (name_in text at end))) 0 (h refl)
  numbered-other (Word k) at end i w h = refl
  numbered-other (Punctuator k) at end i w h = refl

  length-numbered : (t : Token) (at end : ℕ) (w : List ℕ) → length (numbered number text t at end w) ≡ length w
  length-numbered (Number n k) at end w = refl
  length-numbered String at end w = refl
  length-numbered Variable at end w = length-set w at (word variable_tag (number (name_in text at end)))
  length-numbered (Word k) at end w = refl
  length-numbered (Punctuator k) at end w = refl

  -- the name of a variable, by its place alone
  numbered-own : (t : Token) (at end : ℕ) (w : List ℕ) → t ≡ Variable → lexeme_at text at ≡ Found t at end → at < length w →
      get_or (numbered number text t at end w) at 0 ≡ word variable_tag (number (name_at text at))
  unfolding name_at
  numbered-own t at end w v e room =
      ap (λ t. get_or (numbered number text t at end w) at 0) v
      ∙ get_or-set_same w at (word variable_tag (number (name_in text at end))) 0 room
      ∙ ap (λ x. word variable_tag (number (name_in text at (end_of x)))) (sym e)

  -- below the first of some tokens their numbers change nothing
  below : (lo i : ℕ) (ts : List Placed) (w : List ℕ) → Rising text lo ts → i < lo → get_or (numbered_all number text ts w) i 0 ≡ get_or w i 0
  below lo i [] w r h = refl
  below lo i (placed t at end ∷ ts) w r h =
      below end i ts (numbered number text t at end w) r.3 (omega (arith, r.1.order)) ∙ numbered-other t at end i w (λ v e. omega arith)

-- ---- the slots of all tokens

-- u are the slots v, with a number in those of variables alone: at the place of a token, and in the slot before it
pub record Settled (v u : List ℕ) (name : ℕ → ℕ) (t : Token) (place : ℕ) : Type 0 where
  pub kept : Other t → get_or u place 0 ≡ get_or v place 0
  pub named : t ≡ Variable → get_or u place 0 ≡ word variable_tag (name place)
  pub left : 0 < place → get_or u (place - 1) 0 ≡ get_or v (place - 1) 0

abbrev pub SettledAt : List ℕ → List ℕ → (ℕ → ℕ) → Placed → Type 0
SettledAt v u name (placed t at end) = Settled v u name t at

-- each of a list is as asked
abbrev pub Each : {A : Type 0} → List A → (A → Type 0) → Type 0
Each [] P = Unit {0}
Each (x ∷ xs) P = P x × Each xs P

pub each-cut : {A : Type 0} (xs ys : List A) (P : A → Type 0) → Each (xs ++ ys) P → Each xs P × Each ys P
each-cut [] ys P h = (tt, h)
each-cut (x ∷ xs) ys P h = let r = each-cut xs ys P h.1 in ((h.0, r.0), r.1)

module _ (number : List ℕ → ℕ) (text v : List ℕ) where
  -- after the tokens before lo, w agrees with v from the slot before lo on
  settles : (lo : ℕ) (ts : List Placed) (w : List ℕ) → Rising text lo ts → length text ≤ length w → ((i : ℕ) → lo ≤ i + 1 → get_or w i 0 ≡ get_or v i 0) →
      Each ts (SettledAt v (numbered_all number text ts w) (λ p. number (name_at text p)))
  settles lo [] w r room same = tt
  settles lo (placed t at end ∷ ts) w (low, stands, found, rest) room same =
      let w' = numbered number text t at end w in (
        record {
          kept = λ h. below number text end at ts w' rest stands.order ∙ numbered-other number text t at end at w (λ v e. subst Other v h) ∙ same at (omega arith);
          named = λ h. below number text end at ts w' rest stands.order ∙ numbered-own number text t at end w h found (omega (arith, stands));
          left = λ h. below number text end (at - 1) ts w' rest (omega (arith, stands.order)) ∙ numbered-other number text t at end (at - 1) w (λ v e. omega arith) ∙ same (at - 1) (omega arith);
        },
        settles end ts w' rest (omega (arith, length-numbered number text t at end w)) (λ i h.
            numbered-other number text t at end i w (λ v e. omega (arith, stands.long v)) ∙ same i (omega (arith, stands.order))),
      )

  pub all_settled : (ts : List Placed) → Rising text 0 ts → length text ≤ length v → Each ts (SettledAt v (numbered_all number text ts v) (λ p. number (name_at text p)))
  all_settled ts r room = settles 0 ts v r room (λ i h. refl)
