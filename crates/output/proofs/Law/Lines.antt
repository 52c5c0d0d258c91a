-- Lines of the output.
use mathlib.Core.Path.{◌≡◌, refl, sym, ◌∙◌, ap}
use mathlib.Core.Bool.{Bool, true, false, cond}
use mathlib.Core.List.{List, [], ◌∷◌, ◌++◌}
use Prim.Native.Nat.{ℕ, suc, ◌+◌, ◌-◌, ◌/◌, ◌%◌, ◌^◌, ◌≤◌, ◌<◌}
use native.Mathlib.Omega.{arith}
use borrow.Author.Tests.{leb-true, lt-ltb, le-ltb, le-leb, lt-leb}
use lib.Dec.{leb}
use lib.ListN.{length, drop, length-append}
use Rattle.std.specs.Fmt.{decimal as std_decimal}
use Rattle.std.proofs.lemmas.Fmt.{AppendsLastDigit, decimal_from_appends, length-decimal-le}
use Rattle.output.specs.Line.{front, decimal_digit, digits_of, decimal, hex_digit}

-- ---- digits

pub last-digit : (n most : ℕ) → n < 10 → digits_of (suc most) n ≡ decimal_digit n ∷ []
unfolding digits_of
last-digit n most h = rw (lt-ltb n 10 h, digits_of)

pub digit-more : (n most : ℕ) → 10 ≤ n → digits_of (suc most) n ≡ digits_of most (n / 10) ++ (decimal_digit n ∷ [])
unfolding digits_of
digit-more n most h = rw (le-ltb n 10 h, digits_of)

appends : AppendsLastDigit digits_of
appends = record {
  one = λ k n h. last-digit n k h ∙ ap (λ (d : ℕ). d ∷ []) (omega arith);
  more = λ k n h. digit-more n k h;
}

-- the library's decimal text
pub decimal-is : (n : ℕ) → n < 2 ^ 64 → std_decimal n ≡ decimal n
decimal-is n h = sym (decimal_from_appends digits_of appends 20 n h (length-decimal-le 20 n (omega arith) (omega arith) h))

pub hex-small : (n : ℕ) → n % 16 < 10 → 48 + n % 16 ≡ hex_digit n
unfolding hex_digit
hex-small n h = rw (lt-ltb (n % 16) 10 h)

pub hex-large : (n : ℕ) → 10 ≤ n % 16 → 65 + (n % 16 - 10) ≡ hex_digit n
unfolding hex_digit
hex-large n h = rw (le-ltb (n % 16) 10 h) (omega arith)

-- ---- the front of the output

module _ (out line : List ℕ) where
  pub front_fits : length line ≤ length out → (line ++ drop (length line) out, length line) ≡ front out line
  unfolding front
  front_fits h = rw (le-leb (length line) (length out) h)

  pub front-left-out : length out < length line → (out, 0) ≡ front out line
  unfolding front
  front-left-out h = rw (lt-leb (length line) (length out) h)

  fits-inside : (t : Bool) → leb (length line) (length out) ≡ t → (cond {A = List ℕ × ℕ} t (line ++ drop (length line) out, length line) (out, 0)).1 ≤ length out
  fits-inside true q = leb-true (length line) (length out) q
  fits-inside false q = omega arith

  -- the line's length is no more than the output's
  pub front-within : {out' : List ℕ} {end : ℕ} → (out', end) ≡ front out line → end ≤ length out
  unfolding front
  front-within e = rw (ap (λ (p : List ℕ × ℕ). p.1) e) (fits-inside (leb (length line) (length out)) refl)

  front_kept : (t : Bool) → (cond {A = List ℕ × ℕ} t (line ++ drop (length line) out, length line) (out, 0)).1 ≤ length (cond {A = List ℕ × ℕ} t (line ++ drop (length line) out, length line) (out, 0)).0
  front_kept true = rw (length-append line (drop (length line) out)) (omega arith)
  front_kept false = omega arith

  -- the same of what it is then
  pub front-inside : {out' : List ℕ} {end : ℕ} → (out', end) ≡ front out line → end ≤ length out'
  unfolding front
  front-inside e = rw (ap (λ (p : List ℕ × ℕ). p.1) e, ap (λ (p : List ℕ × ℕ). p.0) e) (front_kept (leb (length line) (length out)))
