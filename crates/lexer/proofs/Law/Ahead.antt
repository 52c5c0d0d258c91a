-- What stands at a place lies at or after it, takes a byte at least, and ends within the text.
use mathlib.Core.Path.{◌≡◌, refl, ◌∙◌, ap}
use mathlib.Core.Bool.{true, ◌&&◌, and-eq-true_iff}
use mathlib.Core.List.{List, [], ◌∷◌}
use Prim.Native.Nat.{ℕ, suc, ◌+◌, ◌-◌, ◌≤◌, ◌<◌}
use native.Mathlib.Omega.{arith}
use lib.ListN.{length, drop, length-drop}
use Rattle.number.specs.Decimal.{read_at}
use Rattle.number.specs.declared.decimal.Decimal.{Decimal}
use Rattle.number.specs.declared.decimal.Decimal.TheVariants as decimal
use Rattle.number.proofs.Law.Reading.{EndsWithin, read-within}
use Rattle.lexer.specs.Bytes.{is_space, is_name_byte, is_name_length, in_class, run, begins}
use Rattle.std.specs.Prelude.{Some, None}
use Rattle.lexer.specs.Punctuator.{Spelled, spelled_by}
use Rattle.lexer.specs.Token.{Start, starting_at, string_at, variable_at, word_at, lexeme_of, punctuator_at, other_at, number_or, first_at, lexeme_at}
use Rattle.lexer.specs.declared.bytes.Class.TheVariants.{Inside}
use Rattle.lexer.specs.declared.token.Lexeme.{Lexeme}
use Rattle.lexer.specs.declared.token.Lexeme.TheVariants.{Found, Bad, End}
use Rattle.lexer.proofs.Law.Runs.{by-test, run-cons, run-le, byte-within}
use Rattle.lexer.proofs.Law.Forms.{start-cases, start-byte}
use Rattle.lexer.proofs.Law.Punctuators.{taken, spelled-takes}

-- from a place up to a limit
pub record Between (from limit at end : ℕ) : Type 0 where
  pub starts : from ≤ at
  pub goes : at < end
  pub ends : end ≤ limit

abbrev pub Ahead : ℕ → ℕ → Lexeme → Type 0
Ahead from limit (Found t at end) = Between from limit at end
Ahead from limit (Bad at end) = Between from limit at end
Ahead from limit End = Unit {0}

-- ---- each form, at a place with the bytes bs after the first one

module _ (at limit : ℕ) (bs : List ℕ) (h : at + suc (length bs) ≤ limit) where
  one : Between at limit at (at + 1)
  one = record { starts = omega arith; goes = omega arith; ends = omega arith }

  string-ahead : (q : ℕ) → Ahead at limit (string_at at q bs)
  unfolding string_at
  string-ahead q =
      let n = run (in_class (Inside q)) bs in
      by-test (Ahead at limit) (begins (q ∷ []) (drop n bs))
      (λ e. (let i = byte-within bs n q e in record { starts = omega arith; goes = omega arith; ends = omega arith })) (λ e. one)

  variable-ahead : Ahead at limit (variable_at at bs)
  unfolding variable_at
  variable-ahead =
      let n = run is_name_byte (drop 1 bs) in
      let good = begins (123 ∷ []) bs && is_name_length n in
      by-test (Ahead at limit) (good && begins (125 ∷ []) (drop (1 + n) bs))
      (λ e. (let i = byte-within bs (1 + n) 125 ((and-eq-true_iff good _).0 e).1 in record { starts = omega arith; goes = omega arith; ends = omega arith })) (λ e. one)

  word-ahead : (b : ℕ) → is_name_byte b ≡ true → Ahead at limit (word_at at (b ∷ bs))
  unfolding word_at
  word-ahead b e =
      let r : run is_name_byte (b ∷ bs) ≡ suc (run is_name_byte bs) = run-cons is_name_byte b bs e in
      let l = run-le is_name_byte bs in
      record { starts = omega arith; goes = omega arith; ends = omega arith }

  spelled-ahead : (s : Spelled) → (0 < taken s) × (taken s ≤ suc (length bs)) → Ahead at limit (lexeme_of at s)
  spelled-ahead (Some k, n) s = record { starts = omega arith; goes = omega (arith, s); ends = omega (arith, s) }
  spelled-ahead (None, n) s = record { starts = omega arith; goes = omega (arith, s); ends = omega (arith, s) }

  punctuator-ahead : (b : ℕ) → Ahead at limit (punctuator_at at (b ∷ bs))
  unfolding punctuator_at
  punctuator-ahead b = spelled-ahead (spelled_by (b ∷ bs)) (spelled-takes (b ∷ bs) (omega arith))

  other-ahead : (b : ℕ) → Ahead at limit (other_at at b bs)
  unfolding other_at
  other-ahead b = start-cases (λ (s : Start). Ahead at limit (starting_at s at b bs)) b (λ e. string-ahead b) (λ e. variable-ahead) (λ e. word-ahead b (start-byte b e)) (punctuator-ahead b)

number-ahead : (text : List ℕ) (at b : ℕ) (bs : List ℕ) (d : Decimal) → at + suc (length bs) ≤ length text → EndsWithin text at d → Ahead at (length text) (number_or d at b bs)
number-ahead text at b bs (decimal.Number end n k) h e = record { starts = omega arith; goes = e.0; ends = e.1 }
number-ahead text at b bs (decimal.TooLong end) h e = record { starts = omega arith; goes = e.0; ends = e.1 }
number-ahead text at b bs decimal.Nothing h e = other-ahead at (length text) bs h b

first-ahead : (text : List ℕ) (at : ℕ) (rest : List ℕ) → rest ≡ drop at text → Ahead at (length text) (first_at text at rest)
first-ahead text at [] e = tt
first-ahead text at (b ∷ bs) e =
    let l : suc (length bs) ≡ length text - at = ap length e ∙ length-drop at text in
    number-ahead text at b bs (read_at text at) (omega arith) (read-within text at)

-- from an earlier place
earlier : (from at limit : ℕ) (x : Lexeme) → from ≤ at → Ahead at limit x → Ahead from limit x
earlier from at limit (Found t a e) h w = record { starts = omega (arith, w); goes = w.goes; ends = w.ends }
earlier from at limit (Bad a e) h w = record { starts = omega (arith, w); goes = w.goes; ends = w.ends }
earlier from at limit End h w = tt

pub ahead : (text : List ℕ) (from : ℕ) → Ahead from (length text) (lexeme_at text from)
unfolding lexeme_at
ahead text from =
    let at = from + run is_space (drop from text) in
    earlier from at (length text) (first_at text at (drop at text)) (omega arith) (first-ahead text at (drop at text) refl)
