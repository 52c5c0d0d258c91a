-- Symbols: where they lie in the text, what numbers they have, and what follows them.
use Rattle.std.specs.Prelude.{Option, None, Some, Ok, Err, Result}
use mathlib.Core.Path.{◌≡◌, refl, ap, sym, subst, ◌∙◌}
use mathlib.Core.Bool.{true, cond, ◌&&◌, and-eq-true_iff}
use mathlib.Core.List.{List, [], ◌∷◌}
use Prim.Native.Nat.{ℕ, suc, ◌-◌, ◌%◌, ◌<◌, ◌≤◌}
use native.Mathlib.Nat.{mod-lt}
use native.Mathlib.Omega.{arith}
use borrow.Author.Tests.{ltb-true, leb-true, eqb-true}
use lib.Dec.{eqb, ltb, leb, lit<}
use lib.ListN.{length, take, drop}
use lib.Seq.{slice, length-slice}
use Rattle.lexer.specs.Bytes.{same, place_in}
use Rattle.lexer.specs.Punctuator.{punctuators}
use Rattle.lexer.specs.Spelling.{Spells, number, string, variable, word, punctuator, Munch}
use Rattle.lexer.specs.Token.{literal_words, lexeme_at}
use Rattle.lexer.specs.declared.token.Token.{Token}
use Rattle.lexer.specs.declared.token.Token.TheVariants.{Number, String, Variable, Word, Punctuator}
use Rattle.lexer.specs.declared.token.Lexeme.{Lexeme}
use Rattle.lexer.specs.declared.token.Lexeme.TheVariants.{Found, Bad, End}
use Rattle.lexer.proofs.Law.Ahead.{Ahead, ahead}
use Rattle.lexer.proofs.Law.Runs.{by-test}
use Rattle.lexer.proofs.Law.Spelling.{slice_is}
use Rattle.lexer.proofs.Munch.{munch}
use Rattle.value.specs.Name.{function_names, member_names, member_index}
use Rattle.tree.specs.Slots.{tags, function_tag, question_tag, pick_tag}
use Rattle.syntax.specs.Symbol.{number_of, symbol_of, symbol_at, dot, open_square, close_square, is, is_word, is_index, function_of, member_of}
use Rattle.syntax.specs.Inner.{Sound, Follows, member_pick_of, index_pick_of, begun, picking_of}
use Rattle.syntax.specs.declared.symbol.Symbol.{Symbol}
use Rattle.syntax.specs.declared.parse.Pick.{Pick}

-- ---- the number of each form of token

pub digits-below : (n k : ℕ) → number_of (Number n k) < 27
digits-below n k =
    by-test (λ (m : ℕ). m < 27) (eqb k 0 && ltb n 4) (λ e. omega (arith, ltb-true n 4 ((and-eq-true_iff (eqb k 0) (ltb n 4)).0 e).1)) (λ e. omega arith)

pub word_below : (k : ℕ) → number_of (Word k) < 35
word_below k = by-test (λ (m : ℕ). m < 35) (ltb k 6) (λ e. omega (arith, ltb-true k 6 e)) (λ e. omega arith)

pub punctuator-apart : (k : ℕ) → (number_of (Punctuator k) < 38) × (number_of (Punctuator k) ≡ 35 → ⊥) × (number_of (Punctuator k) ≡ 36 → ⊥)
punctuator-apart k =
    by-test (λ (m : ℕ). (m < 38) × (m ≡ 35 → ⊥) × (m ≡ 36 → ⊥)) (ltb k 22) (λ e. (let h = ltb-true k 22 e in (omega arith, λ q. omega arith, λ q. omega arith))) (λ e. (omega arith, λ q. omega arith, λ q. omega arith))

-- and no token has the number of the end
pub token-number : (t : Token) → (number_of t < 38) × (number_of t ≡ 36 → ⊥)
token-number (Number n k) = (omega (arith, digits-below n k), λ e. omega (arith, digits-below n k))
token-number String = (omega arith, λ e. omega arith)
token-number Variable = (omega arith, λ e. omega arith)
token-number (Word k) = (omega (arith, word_below k), λ e. omega (arith, word_below k))
token-number (Punctuator k) = let h = punctuator-apart k in (h.0, h.2)

-- 35 is the number of variables only, and these have more than one byte
long-spelled : {s : List ℕ} {t : Token} → Spells s t → number_of t ≡ 35 → 1 < length s
long-spelled (number {n = n} {k = k} d h) e = absurd (omega (arith, digits-below n k))
long-spelled (string q bs h a) e = absurd (omega arith)
long-spelled (variable bs a h) e = omega arith
long-spelled (word b bs h a) e = absurd (omega (arith, word_below (place_in literal_words (b ∷ bs))))
long-spelled (punctuator {s} m) e = absurd ((punctuator-apart (place_in punctuators s)).1 e)

-- ---- the symbol at a place

sound-of : (text : List ℕ) (from : ℕ) (x : Lexeme) → Ahead from (length text) x → Munch text from x → Sound text (symbol_of text x)
sound-of text from (Found t at end) a m =
    record { order = omega (arith, a); inside = a.ends; moves = λ h. a.goes; long = λ e. omega (arith, long-spelled m.2 e, length-slice at end text a.ends) }
sound-of text from (Bad at end) a m = record { order = omega (arith, a); inside = a.ends; moves = λ h. a.goes; long = λ e. absurd (omega arith) }
sound-of text from End a m = record { order = omega arith; inside = omega arith; moves = λ h. absurd (omega arith); long = λ e. absurd (omega arith) }

later_of : (text : List ℕ) (from : ℕ) (x : Lexeme) → Ahead from (length text) x → from ≤ length text → from ≤ (symbol_of text x).at
later_of text from (Found t at end) a h = a.starts
later_of text from (Bad at end) a h = a.starts
later_of text from End a h = h

number-of : (text : List ℕ) (x : Lexeme) → (symbol_of text x).number < 38
number-of text (Found t at end) = (token-number t).0
number-of text (Bad at end) = omega arith
number-of text End = omega arith

module _ (text : List ℕ) (from : ℕ) where
  pub sound-at : Sound text (symbol_at text from)
  unfolding symbol_at
  sound-at = sound-of text from (lexeme_at text from) (ahead text from) (munch text from)

  pub later-at : from ≤ length text → from ≤ (symbol_at text from).at
  unfolding symbol_at
  later-at = later_of text from (lexeme_at text from) (ahead text from)

  pub numbers : (symbol_at text from).number < 38
  unfolding symbol_at
  numbers = number-of text (lexeme_at text from)

pub sound-as : {text : List ℕ} {x : Symbol} (from : ℕ) → x ≡ symbol_at text from → Sound text x
sound-as {text} from e = subst (Sound text) (sym e) (sound-at text from)

pub follows-at : {text : List ℕ} {x : Symbol} → Sound text x → Follows text x (symbol_at text x.end)
follows-at {text} {x} s = record { is = refl; sound = sound-at text x.end; later = later-at text x.end s.inside }

-- ---- names

place-most : (ss : List (List ℕ)) (s : List ℕ) → place_in ss s ≤ length ss
place-most [] s = omega arith
place-most (t ∷ ss) s = by-test (λ (n : ℕ). n ≤ suc (length ss)) (same s t) (λ e. omega arith) (λ e. omega (arith, place-most ss s))

pub function-known : (text : List ℕ) (x : Symbol) → function_tag (function_of text x) < question_tag
function-known text x = let h : function_of text x ≤ 20 = place-most function_names (slice x.at x.end text) in omega arith

index_below : (n : ℕ) → pick_tag (cond (ltb n 8) (n % 4) 4) < tags
index_below n = by-test (λ (m : ℕ). pick_tag m < tags) (ltb n 8) (λ e. omega (arith, mod-lt n {m = 4} (lit< tt))) (λ e. omega arith)

pub member-known : (text : List ℕ) (x : Symbol) → pick_tag (member_of text x) < tags
unfolding member_index
member-known text x = index_below (place_in member_names (slice x.at x.end text))

-- the code takes the word as a part of the text, and its number is a byte
module _ (text : List ℕ) (x : Symbol) where
  abbrev part : List ℕ
  part = take (x.end - x.at) (drop x.at text)

  part-is : part ≡ slice x.at x.end text
  part-is = sym (slice_is x.at x.end text)

  pub function-is : {n : ℕ} → n ≡ place_in function_names part → (n ≡ function_of text x) × (n < 256)
  function-is e = let h = e ∙ ap (place_in function_names) part-is in (h, omega (arith, h, function-known text x))

  pub member-is : {n : ℕ} → n ≡ member_index part → (n ≡ member_of text x) × (n < 256)
  member-is e = let h = e ∙ ap member_index part-is in (h, omega (arith, h, member-known text x))

-- ---- tests

-- what lies in a range is no greater than its end
pub in-range : (n m k : ℕ) → leb n k && leb k m ≡ true → k ≤ m
in-range n m k e = leb-true k m ((and-eq-true_iff (leb n k) (leb k m)).0 e).1

-- ---- picks

-- the pick at x goes on, and a symbol follows it
abbrev pub Begun : List ℕ → Symbol → Result Pick Symbol → Type 0
Begun text x (Ok p) = (x.at < p.next.at) × Sound text p.next
Begun text x (Err y) = Unit {0}

abbrev pub Picked : List ℕ → Symbol → Result (Option Pick) Symbol → Type 0
Picked text x (Ok (Some p)) = (x.at < p.next.at) × Sound text p.next
Picked text x (Ok None) = Unit {0}
Picked text x (Err y) = Unit {0}

picked-begun : (text : List ℕ) (x : Symbol) (p : Result Pick Symbol) → Begun text x p → Picked text x (begun p)
picked-begun text x (Ok p) h = h
picked-begun text x (Err y) h = h

module _ (text : List ℕ) (x : Symbol) (s : Sound text x) where
  member-sound : x.at < x.end → Begun text x (member_pick_of text x)
  unfolding member_pick_of
  member-sound h =
      let f = follows-at s in
      let g = follows-at f.sound in
      by-test (Begun text x) (is_word (symbol_at text x.end)) (λ e. (omega (arith, f.later, f.sound.order, g.later), g.sound)) (λ e. tt)

  index-sound : x.at < x.end → Begun text x (index_pick_of text x)
  unfolding index_pick_of
  index-sound h =
      let y = symbol_at text x.end in
      let f = follows-at s in
      let g = follows-at f.sound in
      let k = follows-at g.sound in
      by-test (Begun text x) (is_index y)
      (λ e. by-test (Begun text x) (is close_square (symbol_at text y.end)) (λ i. (omega (arith, f.later, f.sound.order, g.later, g.sound.order, k.later), k.sound)) (λ i. tt))
      (λ e. tt)

  pub picking-sound : Picked text x (picking_of text x)
  unfolding picking_of
  picking-sound =
      by-test (Picked text x) (is dot x) (λ e. picked-begun text x (member_pick_of text x) (member-sound (s.moves (omega (arith, eqb-true x.number 21 e)))))
      (λ _. by-test (Picked text x) (is open_square x) (λ e. picked-begun text x (index_pick_of text x) (index-sound (s.moves (omega (arith, eqb-true x.number 18 e))))) (λ _. tt))
