-- What `component` and `byte` lean on.
use Rattle.std.proofs.Common.{◌≡◌, ℕ, zero, suc, ◌+◌, ◌-◌, ◌*◌, ◌/◌, ◌%◌, ◌^◌, ◌<◌, ◌≤◌, min, Bool, true, false, T, leb, pos, negsuc, sym, refl, ap, ◌∙◌, subst, le_trans, lt_of_lt_of_le, mul_assoc, mul_comm, div-lt_iff_lt-mul, add-mul, mul-le-mul_left, mul-lt-mul_of_pos_right, le-div_iff_mul-le, mul-one, mul-div_cancel, mul_left_comm, arith, lit<, lit≤, lt→ltb, pow_pos, pow_mono, pow-add, ltb-false, ltb-true, leb-false, leb-true}
use lib.Ieee.{Float, nan, inf, fin, binary64, up, down, round, lt, is_nan, mul, to_unsigned, fits}
use lib.Ieee.Exact.{HasValue, round_exact}
use lib.Ieee.Fits.{down_pos}
use lib.Ieee.Nearest.{div_same}
use lib.Ieee.Scale.{round_same}
use Rattle.number.specs.Arithmetic.{nought, unit}
use Rattle.number.specs.Colour.{component_of, byte_of}
use Rattle.number.proofs.Law.Compare.{no, no', value-lt, fits-says}
use Rattle.number.proofs.Law.Arithmetic.{or-true}

-- ---- the component

pub component-below : (x : Float) → lt x nought ≡ true → nought ≡ component_of x
unfolding component_of
component-below x h = rw (h, or-true (is_nan x))

above-is-number : (x : Float) → lt unit x ≡ true → is_nan x ≡ false
unfolding is_nan lt
above-is-number nan h = no h
above-is-number (inf s) h = refl
above-is-number (fin s m e) h = refl

pub component-above : (x : Float) → lt x nought ≡ false → lt unit x ≡ true → unit ≡ component_of x
unfolding component_of
component-above x p h = rw (above-is-number x h, p, h)

pub component-nan : (x : Float) → is_nan x ≡ true → nought ≡ component_of x
unfolding component_of
component-nan x h = rw h

pub component-within : (x : Float) → lt x nought ≡ false → lt unit x ≡ false → is_nan x ≡ false → x ≡ component_of x
unfolding component_of
component-within x p q h = rw (h, p, q)

-- ---- the byte at both ends

pub byte_low : (c : Float) → lt (fin false 1 (negsuc 8)) c ≡ false → 0 ≡ byte_of c
unfolding lt byte_of
byte_low nan h = refl
byte_low (inf true) h = refl
byte_low (inf false) h = no' h
byte_low (fin true m e) h = refl
byte_low (fin false m e) h =
    let p : m * up e * 512 ≤ down e = omega (arith, ltb-false (1 * down e) (m * up e * 512) h) in
    let t : 0 < 2 * down e = omega (arith, down_pos e) in
    let u : 510 * (m * up e) + down e < 1 * (2 * down e) = omega (arith, down_pos e) in
    let z : (510 * (m * up e) + down e) / (2 * down e) < 1 = (div-lt_iff_lt-mul t).1 u in
    omega arith

pub byte_high : (c : Float) → lt (fin false 1 (negsuc 8)) c ≡ true → lt c (fin false 1 (pos 0)) ≡ false → 255 ≡ byte_of c
unfolding lt byte_of
byte_high nan p h = no p
byte_high (inf true) p h = no p
byte_high (inf false) p h = refl
byte_high (fin true m e) p h = no p
byte_high (fin false m e) p h =
    let t : 0 < 2 * down e = omega (arith, down_pos e) in
    let u : 255 * (2 * down e) ≤ 510 * (m * up e) + down e = omega (arith, ltb-false (m * up e * 1) (1 * down e) h) in
    let z : 255 ≤ (510 * (m * up e) + down e) / (2 * down e) = (le-div_iff_mul-le t).1 u in
    omega arith

-- the long division of 510 n + 2 ^ 61 by 2 ^ 62
pub long : (n : ℕ) → (510 * (n / 4294967296) + 536870912 + 510 * (n % 4294967296) / 4294967296) / 1073741824 ≡ (510 * n + 2 ^ 61) / 2 ^ 62
long n = omega arith

expand : (x d : ℕ) → (510 * x + 2 ^ 61) * (2 * d) ≡ 1020 * (x * d) + 2 ^ 62 * d
expand x d =
    let e : 510 * x * (2 * d) ≡ 1020 * (x * d) = mul_assoc 510 x (2 * d) ∙ ap (λ (z : ℕ). 510 * z) (mul_left_comm x 2 d) ∙ omega arith in
    add-mul (510 * x) (2 ^ 61) (2 * d) ∙ omega (arith, e)

-- ---- between: a number m / 2 ^ suc a above 2 ^ -9 and below 1
module _ (m a : ℕ) (small : m < 2 ^ 53) (low : 2 ^ suc a < m * 512) (high : m < 2 ^ suc a) where
  exponent : suc a ≤ 61
  exponent = go (leb (suc a) 61) refl
    where
      go : (b : Bool) → leb (suc a) 61 ≡ b → suc a ≤ 61
      go true e = leb-true (suc a) 61 e
      go false e =
          let h : 2 ^ 62 ≤ 2 ^ suc a = pow_mono (leb-false (suc a) 61 e) in
          absurd (omega arith)

  k : ℕ
  k = 2 ^ (61 - suc a)

  k-pos : 0 < k
  unfolding k
  k-pos = pow_pos (61 - suc a)

  -- 2 ^ 61 of it are whole
  whole-61 : k * 2 ^ suc a ≡ 2 ^ 61
  unfolding k
  whole-61 =
      let h : 61 - suc a + suc a ≡ 61 = omega (arith, exponent) in
      sym (pow-add 2 (61 - suc a) (suc a)) ∙ ap (λ (i : ℕ). 2 ^ i) h

  times : Float
  times = mul binary64 (fin false m (negsuc a)) (fin false 1 (pos 61))

  mk-small : m * k < 2 ^ 61
  mk-small = subst (λ (z : ℕ). m * k < z) (mul_comm (2 ^ suc a) k ∙ whole-61) (mul-lt-mul_of_pos_right high k-pos)

  scaled : m * k * 2 ^ suc a ≡ m * 2 ^ 61
  scaled = mul_assoc m k (2 ^ suc a) ∙ ap (λ (z : ℕ). m * z) whole-61

  -- m * 2 ^ (61 - suc a) is held exactly
  exact : HasValue (round binary64 false (m * k) 1) false (m * k) 1
  unfolding k
  exact =
      let j = 61 - suc a + 1074 in
      let j-le : j ≤ 1135 = omega arith in
      round_exact binary64 false (m * k) 1 m j (lit< tt) small
      (lt_of_lt_of_le (mul-lt-mul_of_pos_right small (pow_pos j)) (le_trans (mul-le-mul_left (2 ^ 53) (pow_mono j-le)) (lit≤ tt)))
      (mul_assoc m (2 ^ (61 - suc a)) (2 ^ 1074) ∙ ap (λ (z : ℕ). m * z) (sym (pow-add 2 (61 - suc a) 1074)) ∙ sym (mul-one (m * 2 ^ j)))

  value : HasValue times false (m * k) 1
  unfolding times mul
  value =
      let e : m * 1 * 2 ^ 61 * 1 ≡ m * k * (2 ^ suc a * 1) = mul-one (m * 1 * 2 ^ 61) ∙ ap (λ (z : ℕ). z * 2 ^ 61) (mul-one m) ∙ sym scaled ∙ ap (λ (z : ℕ). m * k * z) (sym (mul-one (2 ^ suc a))) in
      let p : 0 < 2 ^ suc a * 1 = omega (arith, pow_pos (suc a)) in
      subst (λ (t : Float). HasValue t false (m * k) 1) (sym (round_same binary64 false (m * 1 * 2 ^ 61) (2 ^ suc a * 1) (m * k) 1 p (lit< tt) e)) exact

  whole-byte : (510 * (m * k) + 2 ^ 61) / 2 ^ 62 ≡ (510 * (m * 1) + 2 ^ suc a) / (2 * 2 ^ suc a)
  whole-byte =
      let p : 0 < 2 * 2 ^ suc a = omega (arith, pow_pos (suc a)) in
      let e : (510 * (m * k) + 2 ^ 61) * (2 * 2 ^ suc a) ≡ (510 * (m * 1) + 2 ^ suc a) * 2 ^ 62 = expand (m * k) (2 ^ suc a) ∙ omega (arith, scaled, mul-one m) in
      div_same (510 * (m * k) + 2 ^ 61) (2 ^ 62) (510 * (m * 1) + 2 ^ suc a) (2 * 2 ^ suc a) (lit< tt) p e

-- ---- what `byte` returns between
middle : (P : Float → Type 0) → ((m a : ℕ) → m < 2 ^ 53 → 2 ^ suc a < m * 512 → m < 2 ^ suc a → P (fin false m (negsuc a))) →
    (c : Float) → fits binary64 c ≡ true → lt (fin false 1 (negsuc 8)) c ≡ true → lt c (fin false 1 (pos 0)) ≡ true → P c
unfolding lt
middle P f nan g l h = no l
middle P f (inf true) g l h = no l
middle P f (inf false) g l h = no h
middle P f (fin true m e) g l h = no l
middle P f (fin false m (pos a)) g l h = absurd (omega (arith, ltb-true (1 * 1) (m * 2 ^ a * 512) l, ltb-true (m * 2 ^ a * 1) (1 * 1) h))
middle P f (fin false zero (negsuc a)) g l h = absurd (omega (arith, ltb-true (1 * 2 ^ suc a) (0 * 1 * 512) l))
middle P f (fin false (suc m) (negsuc a)) g l h =
    f (suc m) a (fits-says false m (negsuc a) (subst T (sym g) tt)).digits (omega (arith, ltb-true (1 * 2 ^ suc a) (suc m * 1 * 512) l)) (omega (arith, ltb-true (suc m * 1 * 1) (1 * 2 ^ suc a) h))

abbrev times-61 : Float → Float
times-61 c = mul binary64 c (fin false 1 (pos 61))

to-unsigned : (t : Float) (n : ℕ) → HasValue t false n 1 → n < 2 ^ 64 → to_unsigned 64 t ≡ n
unfolding to_unsigned
to-unsigned nan n v h = absurd v
to-unsigned (inf s) n v h = absurd v
to-unsigned (fin true m e) n v h = no' v.0
to-unsigned (fin false m e) n v h =
    let z : m * up e / down e ≡ n = ap (λ (i : ℕ). i / down e) (sym (mul-one (m * up e)) ∙ v.1) ∙ mul-div_cancel n (down_pos e) in
    omega arith

minus_one : (n : ℕ) (t : Float) → HasValue t false n 1 → T (lt (fin true 1 (pos 0)) t)
unfolding lt
minus_one n nan v = absurd v
minus_one n (inf s) v = absurd v
minus_one n (fin true m e) v = no' v.0
minus_one n (fin false m e) v = lt→ltb 0 (1 * down e + m * up e * 1) (omega (arith, down_pos e))

range-of : (t : Float) (n : ℕ) → HasValue t false n 1 → n < 2 ^ 64 → T (lt (fin true 1 (pos 0)) t) × T (lt t (fin false 1 (pos 64)))
range-of t n v h = (minus_one n t v, subst T (sym (value-lt t n 1 1 (pos 64) (lit< tt) v)) (lt→ltb (n * 1) (2 ^ 64 * 1) (omega (arith, mul-one n))))

product : (m a : ℕ) (s : m < 2 ^ 53) (l : 2 ^ suc a < m * 512) (h : m < 2 ^ suc a) → HasValue (times-61 (fin false m (negsuc a))) false (m * k m a s l h) 1
unfolding times
product m a s l h = value m a s l h

bound : (m a : ℕ) (s : m < 2 ^ 53) (l : 2 ^ suc a < m * 512) (h : m < 2 ^ suc a) → m * k m a s l h < 2 ^ 64
bound m a s l h = omega (arith, mk-small m a s l h)

as_byte : (m a : ℕ) (s : m < 2 ^ 53) (l : 2 ^ suc a < m * 512) (h : m < 2 ^ suc a) →
    (to_unsigned 64 (times-61 (fin false m (negsuc a))) < 2 ^ 61) × ((510 * to_unsigned 64 (times-61 (fin false m (negsuc a))) + 2 ^ 61) / 2 ^ 62 ≡ min 255 ((510 * (m * 1) + 2 ^ suc a) / (2 * 2 ^ suc a)))
as_byte m a s l h =
    let e = to-unsigned (times-61 (fin false m (negsuc a))) (m * k m a s l h) (product m a s l h) (bound m a s l h) in
    let p = mk-small m a s l h in
    let q = whole-byte m a s l h in
    (omega arith, omega arith)

-- the product fits, and its whole part gives the byte
pub byte-range : (c : Float) → fits binary64 c ≡ true → lt (fin false 1 (negsuc 8)) c ≡ true → lt c (fin false 1 (pos 0)) ≡ true →
    T (lt (fin true 1 (pos 0)) (times-61 c)) × T (lt (times-61 c) (fin false 1 (pos 64)))
byte-range = middle (λ c. T (lt (fin true 1 (pos 0)) (times-61 c)) × T (lt (times-61 c) (fin false 1 (pos 64))))
    (λ m a s l h. range-of _ (m * k m a s l h) (product m a s l h) (bound m a s l h))

pub byte-middle : (c : Float) → fits binary64 c ≡ true → lt (fin false 1 (negsuc 8)) c ≡ true → lt c (fin false 1 (pos 0)) ≡ true →
    (to_unsigned 64 (times-61 c) < 2 ^ 61) × ((510 * to_unsigned 64 (times-61 c) + 2 ^ 61) / 2 ^ 62 ≡ byte_of c)
unfolding byte_of
byte-middle = middle (λ c. (to_unsigned 64 (times-61 c) < 2 ^ 61) × ((510 * to_unsigned 64 (times-61 c) + 2 ^ 61) / 2 ^ 62 ≡ byte_of c))
    (λ m a s l h. as_byte m a s l h)
