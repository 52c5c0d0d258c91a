-- What the parser's definition answers of a text, by the grammar: the tree of a right expression, or the place of a refusal.
use mathlib.Core.Path.{◌≡◌, refl, ap, sym, subst, ◌∙◌}
use mathlib.Core.Logic.{◌⊎◌, inl, inr, ◌↔◌}
use mathlib.Core.List.{List}
use Prim.Native.Nat.{ℕ}
use native.Mathlib.Omega.{arith}
use Rattle.lexer.specs.Tokens.{Placed, tokens, tokens_of}
use Rattle.tree.specs.Tree.{Tree}
use Rattle.syntax.specs.Grammar.{expression, Derives}
use Rattle.syntax.specs.Place.{symbols_of, Right, Refused, place_of, RefusedAt}
use Rattle.syntax.specs.Parser.{Parse, part, refused, spent, whole_from, steps_for, parse_of}
use Rattle.syntax.specs.declared.symbol.Symbol.{Symbol}
use Rattle.syntax.proofs.Grammar.Lists.{uncons}
use Rattle.syntax.proofs.Grammar.Kept.{le_of}
use Rattle.syntax.proofs.Grammar.Lasts.{list-lasts}
use Rattle.syntax.proofs.Grammar.Decides.{steps_of, taken-right, one-tree, one-rest, never_both, refused-where}
use Rattle.syntax.proofs.Grammar.Streams.{stream-place, Alike, parts, refusals, nothing_left, whole-over, listed}

module _ (text : List ℕ) where
  -- ---- one answer

  -- Tokens are refused at one place at most.
  pub one_place : (ts : List Placed) (p q : ℕ) → RefusedAt text ts p → RefusedAt text ts q → p ≡ q
  one_place ts p q (r, h, i) (r', h', i') = i ∙ ap (place_of text) (one-rest text h h') ∙ sym i'

  -- A right expression is refused nowhere.
  pub right-nowhere : (ts : List Placed) (p : ℕ) → RefusedAt text ts p → Right text ts → ⊥
  right-nowhere ts p (r, h, i) d = never_both text h d

  -- the parser over a list, with steps enough
  abbrev list_answer : List Symbol → Parse (List Symbol) Tree
  list_answer xs = whole_from text uncons (steps_of xs) xs

  module _ (ts : List Placed) where
    -- its answer by the grammar
    data ListDecided : Parse (List Symbol) Tree → Type 0 where
      list_right : (e : Tree) (r : List Symbol) → Derives text expression (symbols_of ts) e → ListDecided (part e r)
      list-wrong : (rest : List Placed) → Refused text ts rest → ListDecided (refused (symbols_of rest))

    list-decided : ListDecided (list_answer (symbols_of ts))
    list-decided = go (list_answer (symbols_of ts)) refl
      where
        go : (a : Parse (List Symbol) Tree) → list_answer (symbols_of ts) ≡ a → ListDecided a
        go (part e r) h = list_right e r (taken-right text (steps_of (symbols_of ts)) (symbols_of ts) e r h)
        go (refused r) h = let (rest, i, j) = refused-where text (steps_of (symbols_of ts)) ts r (omega arith) h in rw (← j) (list-wrong rest i)
        go spent h = absurd (list-lasts text (steps_of (symbols_of ts)) (symbols_of ts) (omega arith) h)

    -- All others are refused somewhere.
    pub right-or-refused : Right text ts ⊎ ((p : ℕ) × RefusedAt text ts p)
    right-or-refused = go list-decided
      where
        go : {a : Parse (List Symbol) Tree} → ListDecided a → Right text ts ⊎ ((p : ℕ) × RefusedAt text ts p)
        go (list_right e r d) = inl (e, d)
        go (list-wrong rest h) = inr (place_of text rest, (rest, h, refl))

  -- ---- the parser's

  alike : Alike text (list_answer (listed text).symbols) (parse_of text)
  unfolding parse_of
  alike = let l = listed text in (whole-over text (le_of (steps_of l.symbols) (steps_for text) (omega (arith, l.few)))).over l.streams

  -- The steps of the definition never run out.
  pub never-spent : parse_of text ≡ spent → ⊥
  never-spent h = go (list_answer (listed text).symbols) refl (parse_of text) h alike
    where
      go : (a : Parse (List Symbol) Tree) → list_answer (listed text).symbols ≡ a → (b : Parse Symbol Tree) → b ≡ spent → Alike text a b → ⊥
      go _ e _ h (parts a s) = let z : ◌≡◌ {A = ℕ} 0 1 = cc in omega arith
      go _ e _ h (refusals s) = let z : ◌≡◌ {A = ℕ} 0 1 = cc in omega arith
      go _ e _ h nothing_left = list-lasts text (steps_of (listed text).symbols) (listed text).symbols (omega arith) e

  module _ (ts : List Placed) where
    -- the text's answer by the grammar
    data Decided : Parse Symbol Tree → Type 0 where
      right : (e : Tree) (x : Symbol) → Derives text expression (symbols_of ts) e → Decided (part e x)
      wrong : (x : Symbol) → RefusedAt text ts x.at → Decided (refused x)

    decided-as : {a : Parse (List Symbol) Tree} {b : Parse Symbol Tree} → ListDecided ts a → Alike text a b → Decided b
    decided-as (list_right e r d) (parts _ {x} s) = right e x d
    decided-as (list-wrong rest h) (refusals {x} s) = wrong x (rest, h, stream-place text rest s)

    module _ (lexed : tokens_of text ≡ tokens ts) where
      decided : Decided (parse_of text)
      decided = decided-as (list-decided ts) (subst (λ xs. Alike text (list_answer xs) (parse_of text)) ((listed text).tokens-are ts lexed) alike)

      -- A text is taken with a tree exactly if the grammar derives that tree of its tokens.
      pub accepts : (e : Tree) → ((x : Symbol) × (parse_of text ≡ part e x)) ↔ Derives text expression (symbols_of ts) e
      accepts e = (λ (x, h). onto (parse_of text) decided x h, λ d. back d (parse_of text) decided refl)
        where
          onto : (a : Parse Symbol Tree) → Decided a → (x : Symbol) → a ≡ part e x → Derives text expression (symbols_of ts) e
          onto _ (right e' x' d) x h = let i : e' ≡ e = cc in rw i at d
          onto _ (wrong x' r) x h = let z : ◌≡◌ {A = ℕ} 0 1 = cc in absurd (omega arith)

          back : Derives text expression (symbols_of ts) e → (a : Parse Symbol Tree) → Decided a → parse_of text ≡ a → (x : Symbol) × (parse_of text ≡ part e x)
          back d _ (right e' x d') h = (x, h ∙ ap (λ e. part e x) (one-tree text (symbols_of ts) e' e d' d))
          back d _ (wrong x r) h = absurd (right-nowhere ts x.at r (e, d))

      -- It is refused at a place exactly if the grammar refuses its tokens there.
      pub refuses : (p : ℕ) → ((x : Symbol) × (parse_of text ≡ refused x) × (x.at ≡ p)) ↔ RefusedAt text ts p
      refuses p = (λ (x, h, i). onto (parse_of text) decided x h i, λ r. back r (parse_of text) decided refl)
        where
          onto : (a : Parse Symbol Tree) → Decided a → (x : Symbol) → a ≡ refused x → x.at ≡ p → RefusedAt text ts p
          onto _ (right e x' d) x h i = let z : ◌≡◌ {A = ℕ} 0 1 = cc in absurd (omega arith)
          onto _ (wrong x' r) x h i = let j : x' ≡ x = cc in subst (λ q. RefusedAt text ts q) (ap (λ (y : Symbol). y.at) j ∙ i) r

          back : RefusedAt text ts p → (a : Parse Symbol Tree) → Decided a → parse_of text ≡ a → (x : Symbol) × (parse_of text ≡ refused x) × (x.at ≡ p)
          back r _ (right e x d) h = absurd (right-nowhere ts p r (e, d))
          back r _ (wrong x r') h = (x, h, one_place ts x.at p r' r)
