-- What stands at a place of a text depends only on the bytes from there on, but for the places in the answer.
use mathlib.Core.Path.{◌≡◌, refl, sym, ◌∙◌, ap}
use mathlib.Core.Bool.{Bool, true, false, cond, ◌&&◌}
use mathlib.Core.List.{List, [], ◌∷◌, ◌++◌}
use Prim.Native.Nat.{ℕ, ◌+◌}
use native.Mathlib.Nat.{add_assoc}
use native.Mathlib.Omega.{arith}
use lib.Dec.{eqb, leb}
use lib.ListN.{length, take, drop}
use lib.Seq.{drop-drop}
use Rattle.number.specs.Decimal.{whole_part, fraction, joined, with_point, most_digits, read_at}
use Rattle.number.specs.declared.decimal.Decimal.{Decimal}
use Rattle.number.specs.declared.decimal.Decimal.TheVariants as decimal
use Rattle.lexer.specs.Bytes.{is_space, is_name_byte, is_name_length, in_class, run, begins, place_in}
use Rattle.std.specs.Prelude.{Some, None}
use Rattle.lexer.specs.Punctuator.{Spelled, spelled_by}
use Rattle.lexer.specs.Token.{literal_words, Start, quote, dollar, letter, other, start_of, starting_at, string_at, variable_at}
use Rattle.lexer.specs.Token.{word_at, lexeme_of, punctuator_at, other_at, number_or, first_at, lexeme_at}
use Rattle.lexer.specs.declared.bytes.Class.TheVariants.{Inside}
use Rattle.lexer.specs.declared.token.Token.{Token}
use Rattle.lexer.specs.declared.token.Token.TheVariants.{String, Variable, Word, Punctuator}
use Rattle.lexer.specs.declared.token.Lexeme.{Lexeme}
use Rattle.lexer.specs.declared.token.Lexeme.TheVariants.{Found, Bad, End}

-- the same lexeme, so many places further on
abbrev pub moved : ℕ → Lexeme → Lexeme
moved base (Found t at end) = Found t (base + at) (base + end)
moved base (Bad at end) = Bad (base + at) (base + end)
moved base End = End

-- ---- a number

-- the same number, so many places further on
abbrev pub moved_number : ℕ → Decimal → Decimal
moved_number base decimal.Nothing = decimal.Nothing
moved_number base (decimal.Number end n k) = decimal.Number (base + end) n k
moved_number base (decimal.TooLong end) = decimal.TooLong (base + end)

-- by the tests that a number passes
decimal-moved : (base end further n k : ℕ) (none few : Bool) → further ≡ base + end →
    cond none decimal.Nothing (cond few (decimal.Number further n k) (decimal.TooLong further))
    ≡ moved_number base (cond none decimal.Nothing (cond few (decimal.Number end n k) (decimal.TooLong end)))
decimal-moved base end further n k true few e = refl
decimal-moved base end further n k false true e = ap (λ (i : ℕ). decimal.Number i n k) e
decimal-moved base end further n k false false e = ap decimal.TooLong e

pub read-moved : (text : List ℕ) (base at : ℕ) → read_at text (base + at) ≡ moved_number base (read_at (drop base text) at)
unfolding read_at
read-moved text base at =
    let rest = drop at (drop base text) in
    let w = whole_part rest in
    let f = fraction (drop (length w) rest) in
    let e : base + at + length w + with_point (length f) ≡ base + (at + length w + with_point (length f)) = omega arith in
    rw (← drop-drop at base text)
    (decimal-moved base (at + length w + with_point (length f)) (base + at + length w + with_point (length f)) (joined 0 (w ++ f)) (length f)
    (eqb (length w) 0) (leb (length w + length f) most_digits) e)

-- ---- each form, from the same bytes

module _ (base at : ℕ) where
  -- a token of so many bytes, or a refusal of one
  test-moved : (t : Bool) (x : Token) (n : ℕ) →
      cond t (Found x (base + at) (base + at + n)) (Bad (base + at) (base + at + 1)) ≡ moved base (cond t (Found x at (at + n)) (Bad at (at + 1)))
  test-moved true x n = ap (Found x (base + at)) (add_assoc base at n)
  test-moved false x n = ap (Bad (base + at)) (add_assoc base at 1)

  string-moved : (q : ℕ) (bs : List ℕ) → string_at (base + at) q bs ≡ moved base (string_at at q bs)
  unfolding string_at
  string-moved q bs =
      let n = run (in_class (Inside q)) bs in
      test-moved (begins (q ∷ []) (drop n bs)) String (n + 2)

  variable-moved : (bs : List ℕ) → variable_at (base + at) bs ≡ moved base (variable_at at bs)
  unfolding variable_at
  variable-moved bs =
      let n = run is_name_byte (drop 1 bs) in
      test-moved ((begins (123 ∷ []) bs && is_name_length n) && begins (125 ∷ []) (drop (1 + n) bs)) Variable (n + 3)

  word_moved : (rest : List ℕ) → word_at (base + at) rest ≡ moved base (word_at at rest)
  unfolding word_at
  word_moved rest = let n = run is_name_byte rest in ap (Found (Word (place_in literal_words (take n rest))) (base + at)) (add_assoc base at n)

  spelled-moved : (s : Spelled) → lexeme_of (base + at) s ≡ moved base (lexeme_of at s)
  spelled-moved (Some k, n) = ap (Found (Punctuator k) (base + at)) (add_assoc base at n)
  spelled-moved (None, n) = ap (Bad (base + at)) (add_assoc base at n)

  punctuator-moved : (rest : List ℕ) → punctuator_at (base + at) rest ≡ moved base (punctuator_at at rest)
  unfolding punctuator_at
  punctuator-moved rest = spelled-moved (spelled_by rest)

  starting-moved : (s : Start) (b : ℕ) (bs : List ℕ) → starting_at s (base + at) b bs ≡ moved base (starting_at s at b bs)
  starting-moved quote b bs = string-moved b bs
  starting-moved dollar b bs = variable-moved bs
  starting-moved letter b bs = word_moved (b ∷ bs)
  starting-moved other b bs = punctuator-moved (b ∷ bs)

  other-moved : (b : ℕ) (bs : List ℕ) → other_at (base + at) b bs ≡ moved base (other_at at b bs)
  unfolding other_at
  other-moved b bs = starting-moved (start_of b) b bs

  number-moved : (d : Decimal) (b : ℕ) (bs : List ℕ) → number_or (moved_number base d) (base + at) b bs ≡ moved base (number_or d at b bs)
  number-moved (decimal.Number end n k) b bs = refl
  number-moved (decimal.TooLong end) b bs = refl
  number-moved decimal.Nothing b bs = other-moved b bs

-- ---- what stands at a place

first-moved : (text : List ℕ) (base at : ℕ) (rest : List ℕ) → first_at text (base + at) rest ≡ moved base (first_at (drop base text) at rest)
first-moved text base at [] = refl
first-moved text base at (b ∷ bs) =
    ap (λ (d : Decimal). number_or d (base + at) b bs) (read-moved text base at)
    ∙ number-moved base at (read_at (drop base text) at) b bs

pub lexeme-moved : (text : List ℕ) (base p : ℕ) → lexeme_at text (base + p) ≡ moved base (lexeme_at (drop base text) p)
unfolding lexeme_at
lexeme-moved text base p =
    let n = run is_space (drop p (drop base text)) in
    let e : base + p + run is_space (drop (base + p) text) ≡ base + (p + n) =
    ap (λ (bs : List ℕ). base + p + run is_space bs) (sym (drop-drop p base text)) ∙ add_assoc base p n in
    ap (λ (i : ℕ). first_at text i (drop i text)) e
    ∙ ap (first_at text (base + (p + n))) (sym (drop-drop (p + n) base text))
    ∙ first-moved text base (p + n) (drop (p + n) (drop base text))
