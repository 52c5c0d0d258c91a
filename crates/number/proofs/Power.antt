-- The value of a number is its exact quotient, rounded once: ten to the places is exact, and so is the whole number of at most 15 digits.
use Rattle.std.proofs.Common.{◌≡◌, ℕ, zero, suc, ◌+◌, ◌*◌, ◌^◌, ◌<◌, ◌≤◌, Bool, true, false, cond, List, ◌++◌, length, drop, pos, sym, refl, ap, ◌∙◌, subst, true≢false, lt_of_lt_of_le, lt_of_le_of_lt, mul_assoc, mul_comm, mul-pos, pow-suc, mul-one, mul_left_comm, arith, lit<, pow_mono, pow-add, shl_lt, ne_eqb}
use native.Mathlib.Nat.{mul-mul-mul_comm, one-le-pow, pow-le-pow_right}
use lib.Ieee.{Float, nan, inf, fin, binary64, up, down, round, neg, div, of_int}
use lib.Ieee.Exact.{HasValue, round_exact}
use lib.Ieee.Back.{round_whole}
use lib.Ieee.Fits.{down_pos}
use lib.Ieee.Positive.{first_pos, positive_of_value, mul_at}
use lib.Ieee.Scale.{round_same}
use Rattle.number.specs.declared.decimal.Decimal.TheVariants.{Number}
use Rattle.number.specs.Decimal.{joined, most_digits, read_at, ten_to, value_of}
use Rattle.number.proofs.Law.Sign.{sign-round}
use Rattle.number.proofs.Law.Reading.{whole_at, fraction_at, joined-append, whole-lt, fraction-lt, read-cases}

-- ---- ten to the k is exact up to 22

ten-split : (k : ℕ) → 10 ^ k ≡ 5 ^ k * 2 ^ k
ten-split zero = refl
ten-split (suc k) = rw (pow-suc 10 k, pow-suc 5 k, pow-suc 2 k, ten-split k) (mul-mul-mul_comm (5 ^ k) (2 ^ k) 5 2)

-- 5 ^ 22 is below 2 ^ 53
round-ten : (k : ℕ) → k ≤ 22 → HasValue (round binary64 false (10 ^ k) 1) false (10 ^ k) 1
round-ten k h =
    let small : 5 ^ k < 2 ^ 53 = lt_of_le_of_lt (pow-le-pow_right (lit< tt) h) (lit< tt) in
    let places : 53 + (k + 1074) ≤ 2098 = omega arith in
    round_exact binary64 false (10 ^ k) 1 (5 ^ k) (k + 1074) (lit< tt) small (lt_of_lt_of_le (shl_lt 53 (k + 1074) small) (pow_mono places))
    (ap (λ (z : ℕ). z * 2 ^ 1074) (ten-split k) ∙ mul_assoc (5 ^ k) (2 ^ k) (2 ^ 1074) ∙ ap (λ (z : ℕ). 5 ^ k * z) (sym (pow-add 2 k 1074)) ∙ sym (mul-one _))

pub ten-exact : (k : ℕ) → k ≤ 22 → HasValue (ten_to k) false (10 ^ k) 1
unfolding ten_to
ten-exact zero h = (refl, refl)
ten-exact (suc k) h =
    let before : HasValue (ten_to k) false (10 ^ k) 1 = ten-exact k (omega arith) in
    let product : ten_to (suc k) ≡ round binary64 false (10 ^ k * 10) 1
    = mul_at binary64 (ten_to k) (fin false 5 (pos 1)) (10 ^ k) 1 10 1 (positive_of_value (ten_to k) (10 ^ k) 1 before (one-le-pow k 10 (lit< tt))) tt (lit< tt) (lit< tt) before (refl, refl) in
    rw (product, ← pow-suc 10 k) (round-ten (suc k) h)

-- ---- one division of exact values

-- the quotient of a and b, each a float exactly
div-at : (x y : Float) (a b : ℕ) → 0 < b → HasValue x false a 1 → HasValue y false b 1 → div binary64 x y ≡ round binary64 false a b
unfolding div
div-at nan y a b B p q = absurd p
div-at (inf s) y a b B p q = absurd p
div-at (fin true m e) y a b B p q = absurd (true≢false p.0)
div-at (fin false m e) nan a b B p q = absurd q
div-at (fin false m e) (inf t) a b B p q = absurd q
div-at (fin false m e) (fin true n d) a b B p q = absurd (true≢false q.0)
div-at (fin false m e) (fin false n d) a b B p q =
    let x : m * up e ≡ a * down e = sym (mul-one (m * up e)) ∙ p.1 in
    let y : n * up d ≡ b * down d = sym (mul-one (n * up d)) ∙ q.1 in
    let some : 0 < n = first_pos n (up d) (subst (λ (z : ℕ). 0 < z) (sym y) (mul-pos B (down_pos d))) in
    rw (ne_eqb n 0 (λ z. omega arith), x, y)
    (round_same binary64 false (a * down e * down d) (b * down d * down e) a b (mul-pos (mul-pos B (down_pos d)) (down_pos e)) B (simp (mul_assoc, mul_comm, mul_left_comm)))

-- ---- the value

-- the binary64 nearest the exact quotient
pub value-once : (s : Bool) (n k : ℕ) → n ≤ 2 ^ 53 → k ≤ 22 → value_of s n k ≡ round binary64 s n (10 ^ k)
unfolding value_of of_int
value-once s n k h p =
    let quotient : div binary64 (round binary64 false n 1) (ten_to k) ≡ round binary64 false n (10 ^ k)
    = div-at _ _ n (10 ^ k) (one-le-pow k 10 (lit< tt)) (round_whole binary64 false n h) (ten-exact k p) in
    ap (λ (q : Float). cond s (neg q) q) quotient ∙ sign-round s n (10 ^ k)

-- what is read has at most 15 digits, at least one of them before the point
pub read_small : (text : List ℕ) (at end n k : ℕ) → read_at text at ≡ Number end n k → (n < 10 ^ most_digits) × (k < most_digits)
read_small text at end n k =
    read-cases (λ d. d ≡ Number end n k → (n < 10 ^ most_digits) × (k < most_digits)) text at
    (λ z e. let no : ◌≡◌ {A = ℕ} 0 1 = cc in omega arith)
    (λ some few e.
    let w = whole_at text at in
    let f = fraction_at text at in
    let places : length f ≡ k = cc in
    let whole : joined 0 (w ++ f) ≡ n = cc in
    let below : joined 0 (w ++ f) < 10 ^ (length w + length f) = rw (joined-append 0 w f) (fraction-lt _ (joined 0 w) (length w) (whole-lt (drop at text))) in
    (subst (λ (z : ℕ). z < 10 ^ most_digits) whole (lt_of_lt_of_le below (pow-le-pow_right (lit< tt) few)), omega arith))
    (λ some many e. let no : ◌≡◌ {A = ℕ} 0 1 = cc in omega arith)

-- the value of a number that is read
pub literal-value : (text : List ℕ) (at end n k : ℕ) (s : Bool) → read_at text at ≡ Number end n k → value_of s n k ≡ round binary64 s n (10 ^ k)
literal-value text at end n k s e =
    let small : (n < 10 ^ most_digits) × (k < most_digits) = read_small text at end n k e in
    value-once s n k (omega arith) (omega arith)
