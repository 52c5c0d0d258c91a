-- How long the lines of the output are.
use Rattle.std.specs.Prelude.{Option, Some, None}
use mathlib.Core.Path.{◌≡◌, refl}
use mathlib.Core.Bool.{Bool, true, false}
use mathlib.Core.List.{[], ◌∷◌}
use Prim.Native.Nat.{ℕ, zero, suc, ◌+◌, ◌*◌, ◌/◌, ◌≤◌, ◌<◌}
use native.Mathlib.Omega.{arith}
use borrow.Author.Tests.{ltb-true, ltb-false}
use lib.Dec.{ltb}
use lib.ListN.{length, length-append}
use Rattle.output.proofs.Law.Lines.{last-digit, digit-more}
use Rattle.output.specs.Line.{decimal_digit, digits_of, decimal, colour_text, colouring_text, truth_text, painted_line, refused_feature, refused_head, longest_line}
use Rattle.output.specs.Inner.{line_text}
use Rattle.output.specs.declared.line.Line.{Line}
use Rattle.output.specs.declared.line.Line.TheVariants.{Painted, RefusedFeature, RefusedHead}
use Rattle.colour.specs.declared.colour.Colour.{Colour}

-- ---- numbers

-- by whether a number has one digit
module _ (n most most' : ℕ) (rest : length (digits_of most (n / 10)) ≤ most') where
  by-digit : (t : Bool) → ltb n 10 ≡ t → length (digits_of (suc most) n) ≤ suc most'
  by-digit true q = rw (last-digit n most (ltb-true n 10 q)) (omega arith)
  by-digit false q = rw (digit-more n most (ltb-false n 10 q), length-append (digits_of most (n / 10)) (decimal_digit n ∷ [])) (omega arith)

pub digits-fit : (most n : ℕ) → length (digits_of most n) ≤ most
unfolding digits_of
digits-fit zero n = omega arith
digits-fit (suc most) n = by-digit n most most (digits-fit most (n / 10)) (ltb n 10) refl

-- ten to the power after k
abbrev tens : ℕ → ℕ
tens zero = 10
tens (suc k) = 10 * tens k

pub digits-few : (k most n : ℕ) → n < tens k → length (digits_of most n) ≤ suc k
unfolding digits_of
digits-few k zero n h = omega arith
digits-few zero (suc most) n h = rw (last-digit n most h) (omega arith)
digits-few (suc k) (suc most) n h = by-digit n most (suc k) (digits-few k most (n / 10) (omega arith)) (ltb n 10) refl

-- ---- texts

truth-fits : (t : Bool) → length (truth_text t) ≤ 5
truth-fits true = omega arith
truth-fits false = omega arith

colouring-fits : (c : Option Colour) → length (colouring_text c) ≤ 9
unfolding colour_text
colouring-fits None = omega arith
colouring-fits (Some c) = omega arith

-- ---- lines

pub painted-length : (number : ℕ) (show : Bool) (c : Option Colour) → length (painted_line number show c) ≡ length (decimal number) + (suc (length (truth_text show)) + (suc (length (colouring_text c)) + 1))
unfolding painted_line
painted-length number show c = simp length-append

pub refused-feature-length : (feature number place : ℕ) → length (refused_feature feature number place) ≡ length (decimal feature) + (8 + (suc (length (decimal number)) + (suc (length (decimal place)) + 1)))
unfolding refused_feature
refused-feature-length feature number place = simp length-append (omega arith)

pub refused-head-length : (number line place : ℕ) → length (refused_head number line place) ≡ 7 + (suc (length (decimal number)) + (suc (length (decimal line)) + (suc (length (decimal place)) + 1)))
unfolding refused_head
refused-head-length number line place = simp length-append (omega arith)

pub painted-fits : (number : ℕ) (show : Bool) (c : Option Colour) → number ≤ 999999 → length (painted_line number show c) ≤ 32
painted-fits number show c h =
    omega (arith, painted-length number show c, digits-few 5 20 number (omega arith), truth-fits show, colouring-fits c)

-- ---- the longest line

pub painted-page : (number : ℕ) (show : Bool) (c : Option Colour) → length (painted_line number show c) ≤ longest_line
painted-page number show c = omega (arith, painted-length number show c, digits-fit 20 number, truth-fits show, colouring-fits c)

pub refused-feature-page : (feature number place : ℕ) → length (refused_feature feature number place) ≤ longest_line
refused-feature-page feature number place =
    omega (arith, refused-feature-length feature number place, digits-fit 20 feature, digits-fit 20 number, digits-fit 20 place)

pub refused-head-page : (number line place : ℕ) → length (refused_head number line place) ≤ longest_line
refused-head-page number line place =
    omega (arith, refused-head-length number line place, digits-fit 20 number, digits-fit 20 line, digits-fit 20 place)

pub line-page : (l : Line) → length (line_text l) ≤ longest_line
line-page (Painted number show colouring) = painted-page number show colouring
line-page (RefusedFeature feature number place) = refused-feature-page feature number place
line-page (RefusedHead number line place) = refused-head-page number line place
