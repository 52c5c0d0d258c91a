-- Numbers in units of the smallest: what a pattern's fields say, and the remainder of two such numbers.
use Rattle.std.proofs.Common.{◌≡◌, ℕ, zero, suc, ◌+◌, ◌-◌, ◌*◌, ◌/◌, ◌%◌, ◌^◌, ◌<◌, ◌≤◌, Bool, true, false, cond, T, leb, eqb, pos, sym, refl, ap, ◌∙◌, subst, ap₂, mod-lt, mul_assoc, mul_comm, mul-one, one-mul, zero-mul, mul-pos, add-one, pow-suc, pow_pos, pow_mono, pow-add, shl_lt, sub-add_cancel, lt_of_lt_of_le, arith, lit<, mul_right_comm, mul-le-mul_right}
use native.Mathlib.Nat.{mod-eq_of_lt, mul_left_comm, lt_irrefl, zero-lt-suc}
use borrow.Author.Tests.{lt-leb, ne_eqb, eqb-true}
use lib.Dec.{eqb-suc-zero}
use mathlib.Core.Bool.{true≢false}
use lib.Arith.{digits_div, digits_mod}
use lib.Pow.{pow-lt}
use lib.Ieee.{Float, nan, inf, fin, binary64, up, down, unlike, odd, round, mul, rem, of_int, of_fields, of_bits, to_bits, fits, is_nan}
use lib.Ieee.Bits.{of_bits-to_bits}
use lib.Ieee.Back.{round_whole}
use lib.Ieee.Exact.{HasValue, odd_sign}
use lib.Ieee.Fits.{down_pos, up_pos}
use lib.Ieee.Scale.{round_same}
use Rattle.std.proofs.lemmas.Nat.{mul-mod_second}
use Rattle.number.specs.Units.{exponent_field, digits_of, HasUnits}
use Rattle.number.proofs.Law.Remainder.{scale-mod, split-power}

-- ---- powers and rests

pub twice-fits : (p i : ℕ) → p ≡ 2 ^ i → i < 53 → p * 2 < 2 ^ 64
twice-fits p i e h = omega (arith, e, pow-suc 2 i, pow_mono h)

pub power-twice : (p i : ℕ) → p ≡ 2 ^ i → p * 2 ≡ 2 ^ (i + 1)
power-twice p i e = rw (e, add-one, pow-suc)

pub rest-twice : (m n r i : ℕ) → r ≡ m * 2 ^ i % n → 2 * r % n ≡ m * 2 ^ (i + 1) % n
rest-twice m n r i e =
    ap (λ z. 2 * z % n) e
    ∙ mul-mod_second 2 (m * 2 ^ i) n
    ∙ ap (λ z. z % n) (mul_left_comm 2 m (2 ^ i) ∙ ap (λ z. m * z) (mul_comm 2 (2 ^ i) ∙ sym (pow-suc 2 i) ∙ ap (λ n. 2 ^ n) (sym (add-one i))))

-- ---- what a pattern's fields say

apart : (a b : ℕ) → a < b → eqb a b ≡ false
apart a b h = ne_eqb a b (λ e. lt_irrefl b (subst (λ n. n < b) e h))

fields-units : (s : Bool) (f t : ℕ) → f < 2047 → HasUnits (of_fields binary64 s f t) s (cond (eqb f 0) t (2 ^ 52 + t)) (f - 1)
unfolding of_fields
fields-units s zero t h = odd_sign 53 s t 0 1074
fields-units s (suc x) t h =
    go (eqb (suc x) 2047) (eqb (suc x) 0) (suc x - 1) (apart (suc x) 2047 h) (eqb-suc-zero x) (omega arith)
  where
    go : (b c : Bool) (p : ℕ) → b ≡ false → c ≡ false → p ≡ x →
        HasUnits (cond b (cond (eqb t 0) (inf s) nan) (odd 53 s (2 ^ 52 + t) x 1074)) s (cond c t (2 ^ 52 + t)) p
    go true c p e f g = absurd (true≢false e)
    go false true p e f g = absurd (true≢false f)
    go false false p e f g = subst (λ z. HasUnits (odd 53 s (2 ^ 52 + t) x 1074) s (2 ^ 52 + t) z) (sym g) (odd_sign 53 s (2 ^ 52 + t) x 1074)

-- the units of a pattern that is no infinity's and no NaN's
pub bits-units : (b : ℕ) → exponent_field b < 2047 → HasUnits (of_bits binary64 b) (leb (2 ^ 63) b) (digits_of b) (exponent_field b - 1)
unfolding of_bits
bits-units b h = fields-units (leb (2 ^ 63) b) (exponent_field b) (b % 2 ^ 52) h

pub number-units : (x : Float) → T (fits binary64 x) → (b : ℕ) → b ≡ to_bits binary64 x → exponent_field b < 2047 →
    HasUnits x (leb (2 ^ 63) b) (digits_of b) (exponent_field b - 1)
number-units x f b e h =
    subst (λ z. HasUnits z (leb (2 ^ 63) b) (digits_of b) (exponent_field b - 1)) (ap (of_bits binary64) e ∙ of_bits-to_bits binary64 x f) (bits-units b h)

-- an infinity or a NaN
special : (s : Bool) (t : ℕ) (y : Float) → rem binary64 (of_fields binary64 s 2047 t) y ≡ nan
unfolding of_fields rem
special s t y = go (eqb t 0)
  where
    go : (b : Bool) → rem binary64 (cond b (inf s) nan) y ≡ nan
    go true = refl
    go false = refl

pub rem-special : (x y : Float) → T (fits binary64 x) → (b : ℕ) → b ≡ to_bits binary64 x → exponent_field b ≡ 2047 → rem binary64 x y ≡ nan
unfolding of_bits
rem-special x y f b e h =
    ap (λ z. rem binary64 z y) (sym (of_bits-to_bits binary64 x f) ∙ ap (of_bits binary64) (sym e))
    ∙ ap (λ z. rem binary64 (of_fields binary64 (leb (2 ^ 63) b) z (b % 2 ^ 52)) y) h
    ∙ special (leb (2 ^ 63) b) (b % 2 ^ 52) y

-- a number by an infinity is the number
by-special : (x : Float) (s t : Bool) (d p n : ℕ) → HasUnits x s d p → is_nan (of_fields binary64 t 2047 n) ≡ false → rem binary64 x (of_fields binary64 t 2047 n) ≡ x
unfolding of_fields rem is_nan
by-special nan s t d p n v e = absurd v
by-special (inf a) s t d p n v e = absurd v
by-special (fin a m g) s t d p n v e = go (eqb n 0) e
  where
    go : (b : Bool) → is_nan (cond b (inf t) nan) ≡ false → rem binary64 (fin a m g) (cond b (inf t) nan) ≡ fin a m g
    go true e = refl
    go false e = absurd (true≢false e)

pub rem-by-special : (x y : Float) (s : Bool) (d p : ℕ) → HasUnits x s d p → T (fits binary64 y) → (b : ℕ) → b ≡ to_bits binary64 y → exponent_field b ≡ 2047 →
    is_nan y ≡ false → rem binary64 x y ≡ x
unfolding of_bits
rem-by-special x y s d p v f b e h k =
    let is : y ≡ of_fields binary64 (leb (2 ^ 63) b) 2047 (b % 2 ^ 52) =
    sym (of_bits-to_bits binary64 y f) ∙ ap (of_bits binary64) (sym e) ∙ ap (λ z. of_fields binary64 (leb (2 ^ 63) b) z (b % 2 ^ 52)) h in
    ap (rem binary64 x) is ∙ by-special x s (leb (2 ^ 63) b) d p (b % 2 ^ 52) v (ap is_nan (sym is) ∙ k)

-- a number by NaN is NaN
pub rem-by-nan : (x y : Float) → y ≡ nan → rem binary64 x y ≡ nan
unfolding rem
rem-by-nan nan y e = refl
rem-by-nan (inf s) y e = refl
rem-by-nan (fin s m g) y e = ap (rem binary64 (fin s m g)) e

-- ---- a product of a whole number and a power of two

swap : (a b c d : ℕ) → a * b * (c * d) ≡ a * c * (b * d)
swap a b c d = mul_assoc a b (c * d) ∙ ap (λ z. a * z) (mul_left_comm b c d) ∙ sym (mul_assoc a c (b * d))

crossed : (a b k d p e g : ℕ) → a * 1 ≡ d * e → b * k ≡ 1 * p * g → a * b * k ≡ d * p * (e * g)
crossed a b k d p e g x y =
    mul_assoc a b k ∙ ap₂ (λ u v. u * v) (sym (mul-one a) ∙ x) (y ∙ ap (λ z. z * g) (one-mul p)) ∙ swap d e p g

pub product-units : (x u : Float) (d p : ℕ) → HasValue x false d 1 → HasUnits u false 1 p → mul binary64 x u ≡ round binary64 false (d * 2 ^ p) (2 ^ 1074)
unfolding mul
product-units nan u d p v w = absurd v
product-units (inf t) u d p v w = absurd v
product-units (fin a m e) nan d p v w = absurd w
product-units (fin a m e) (inf t) d p v w = absurd w
product-units (fin a m e) (fin b n g) d p v w =
    ap₂ (λ x y. round binary64 (unlike x y) (m * up e * (n * up g)) (down e * down g)) v.0 w.0
    ∙ round_same binary64 false (m * up e * (n * up g)) (down e * down g) (d * 2 ^ p) (2 ^ 1074)
    (mul-pos (down_pos e) (down_pos g)) (pow_pos 1074) (crossed (m * up e) (n * up g) (2 ^ 1074) d (2 ^ p) (down e) (down g) v.1 w.1)

-- ---- the remainder

grown : (a k c r g : ℕ) → a * k ≡ r * g → a * c * k ≡ r * (g * c)
grown a k c r g e = mul_right_comm a c k ∙ ap (λ z. z * c) e ∙ mul_assoc r g c

pub rem-units : (x y : Float) (s t : Bool) (d p e q : ℕ) → HasUnits x s d p → HasUnits y t e q → 0 < e →
    rem binary64 x y ≡ round binary64 s (d * 2 ^ p % (e * 2 ^ q)) (2 ^ 1074)
unfolding rem
rem-units nan y s t d p e q v w h = absurd v
rem-units (inf a) y s t d p e q v w h = absurd v
rem-units (fin a m g) nan s t d p e q v w h = absurd w
rem-units (fin a m g) (inf b) s t d p e q v w h = absurd w
rem-units (fin a m g) (fin b zero k) s t d p e q v w h =
    absurd (lt_irrefl 0 (subst (λ z. 0 < z) (sym w.1 ∙ ap (λ z. z * 2 ^ 1074) (zero-mul (up k)) ∙ zero-mul (2 ^ 1074)) (mul-pos (mul-pos h (pow_pos q)) (down_pos k))))
rem-units (fin a m g) (fin b (suc n) k) s t d p e q v w h =
    let c = down g * down k in
    let top = m * up g * down k in
    let low = suc n * up k * down g in
    let C : 0 < c = mul-pos (down_pos g) (down_pos k) in
    let L : 0 < low = mul-pos (mul-pos (zero-lt-suc n) (up_pos k)) (down_pos g) in
    let parts : top % low * 2 ^ 1074 ≡ d * 2 ^ p % (e * 2 ^ q) * c =
    sym (scale-mod top low (2 ^ 1074) L (pow_pos 1074))
    ∙ ap₂ (λ x y. x % y) (grown (m * up g) (2 ^ 1074) (down k) (d * 2 ^ p) (down g) v.1) (grown (suc n * up k) (2 ^ 1074) (down g) (e * 2 ^ q) (down k) w.1 ∙ ap (λ z. e * 2 ^ q * z) (mul_comm (down k) (down g)))
    ∙ scale-mod (d * 2 ^ p) (e * 2 ^ q) c (mul-pos h (pow_pos q)) C in
    rw (eqb-suc-zero n, v.0) (round_same binary64 s (top % low) c (d * 2 ^ p % (e * 2 ^ q)) (2 ^ 1074) C (pow_pos 1074) parts)

pub rem-zero : (x y : Float) (s t : Bool) (d p q : ℕ) → HasUnits x s d p → HasUnits y t 0 q → rem binary64 x y ≡ nan
unfolding rem
rem-zero nan y s t d p q v w = absurd v
rem-zero (inf a) y s t d p q v w = absurd v
rem-zero (fin a m g) nan s t d p q v w = absurd w
rem-zero (fin a m g) (inf b) s t d p q v w = absurd w
rem-zero (fin a m g) (fin b zero k) s t d p q v w = refl
rem-zero (fin a m g) (fin b (suc n) k) s t d p q v w =
    absurd (lt_irrefl 0 (subst (λ z. 0 < z) (w.1 ∙ ap (λ z. z * down k) (zero-mul (2 ^ q)) ∙ zero-mul (down k)) (mul-pos (mul-pos (zero-lt-suc n) (up_pos k)) (pow_pos 1074))))

-- the rest where the places are apart, and where they are not
pub far : (d p e q : ℕ) → d < 2 ^ 53 → 2 ^ 52 ≤ e → p < q → d * 2 ^ p % (e * 2 ^ q) ≡ d * 2 ^ p
far d p e q D E h =
    let less : d * 2 ^ p < e * 2 ^ q =
    lt_of_lt_of_le (lt_of_lt_of_le (shl_lt 53 p D) (subst (λ z. 2 ^ (53 + p) ≤ z) (pow-add 2 52 q) (pow_mono (omega arith)))) (mul-le-mul_right (2 ^ q) E) in
    mod-eq_of_lt less

pub near : (d p e q : ℕ) → 0 < e → q ≤ p → d * 2 ^ p % (e * 2 ^ q) ≡ d * 2 ^ (p - q) % e * 2 ^ q
near d p e q E h =
    ap (λ z. z % (e * 2 ^ q)) (split-power d q p h) ∙ scale-mod (d * 2 ^ (p - q)) e (2 ^ q) E (pow_pos q)

-- ---- powers of two

-- the number of the fields f and t
with-fields : (b f t : ℕ) → b ≡ f * 2 ^ 52 + t → t < 2 ^ 52 → f < 2047 → HasUnits (of_bits binary64 b) false (cond (eqb f 0) t (2 ^ 52 + t)) (f - 1)
unfolding of_bits
with-fields b f t e h l =
    let inside : b < 2 ^ 63 = omega arith in
    let field : b % 2 ^ 63 / 2 ^ 52 ≡ f = ap (λ z. z / 2 ^ 52) (mod-eq_of_lt inside ∙ e) ∙ digits_div f h in
    let written : b % 2 ^ 52 ≡ t = ap (λ z. z % 2 ^ 52) e ∙ digits_mod f h in
    let is : of_bits binary64 b ≡ of_fields binary64 false f t =
    ap (λ s. of_fields binary64 s (b % 2 ^ 63 / 2 ^ 52) (b % 2 ^ 52)) (lt-leb (2 ^ 63) b inside)
    ∙ ap₂ (λ x y. of_fields binary64 false x y) field written in
    subst (λ x. HasUnits x false (cond (eqb f 0) t (2 ^ 52 + t)) (f - 1)) (sym is) (fields-units false f t l)

same-value : (x : Float) (a b : ℕ) → a ≡ b → HasValue x false a (2 ^ 1074) → HasValue x false b (2 ^ 1074)
same-value x a b e v = subst (λ z. HasValue x false z (2 ^ 1074)) e v

-- the pattern of a small one has the field 0, and the digits of a large one are 0
pub small-power : (p : ℕ) → p < 52 → HasUnits (of_bits binary64 (2 ^ p)) false 1 p
small-power p h =
    same-value (of_bits binary64 (2 ^ p)) (2 ^ p * 1) (1 * 2 ^ p) (mul_comm (2 ^ p) 1)
    (with-fields (2 ^ p) 0 (2 ^ p) (omega arith) (pow-lt h) (lit< tt))

large : (k : ℕ) → k < 1994 → HasUnits (of_bits binary64 (suc k * 2 ^ 52)) false 1 (k + 52)
large k h =
    let x = of_bits binary64 (suc k * 2 ^ 52) in
    let v : HasUnits x false (cond (eqb (suc k) 0) 0 (2 ^ 52)) (suc k - 1) = with-fields (suc k * 2 ^ 52) (suc k) 0 (omega arith) (lit< tt) (omega arith) in
    let w : HasUnits x false (cond false 0 (2 ^ 52)) k = subst (λ b. HasUnits x false (cond b 0 (2 ^ 52)) k) (eqb-suc-zero k) (subst (λ p. HasUnits x false (cond (eqb (suc k) 0) 0 (2 ^ 52)) p) (omega arith) v) in
    same-value x (2 ^ 52 * 2 ^ k) (1 * 2 ^ (k + 52)) (mul_comm (2 ^ 52) (2 ^ k) ∙ sym (pow-add 2 k 52) ∙ sym (one-mul (2 ^ (k + 52)))) w

pub large-power : (p : ℕ) → 52 ≤ p → p < 2046 → HasUnits (of_bits binary64 ((p - 52 + 1) * 2 ^ 52)) false 1 p
large-power p h l =
    let back : p - 52 + 52 ≡ p = sub-add_cancel h in
    subst (λ q. HasUnits (of_bits binary64 (q * 2 ^ 52)) false 1 p) (sym (add-one (p - 52)))
    (subst (λ q. HasUnits (of_bits binary64 (suc (p - 52) * 2 ^ 52)) false 1 q) back (large (p - 52) (omega arith)))

-- a whole number below 2 ^ 53 is exact
pub whole-value : (n : ℕ) → n < 2 ^ 53 → HasValue (of_int binary64 (pos n)) false n 1
unfolding of_int
whole-value n h = round_whole binary64 false n (omega arith)

-- ---- bounds of fields

pub field-below : (b : ℕ) → (exponent_field b ≡ 2047 → ⊥) → exponent_field b < 2047
field-below b h =
    let inside : b % 2 ^ 63 < 2 ^ 63 = mod-lt b (lit< tt) in
    omega (arith, h)

pub digits-below : (b : ℕ) → digits_of b < 2 ^ 53
digits-below b = go (eqb (exponent_field b) 0)
  where
    short : b % 2 ^ 52 < 2 ^ 52
    short = mod-lt b (lit< tt)

    go : (c : Bool) → cond c (b % 2 ^ 52) (2 ^ 52 + b % 2 ^ 52) < 2 ^ 53
    go true = let s = short in omega arith
    go false = let s = short in omega arith

pub digits-above : (b p : ℕ) → p < exponent_field b - 1 → 2 ^ 52 ≤ digits_of b
digits-above b p h = go (eqb (exponent_field b) 0) refl
  where
    go : (c : Bool) → eqb (exponent_field b) 0 ≡ c → 2 ^ 52 ≤ cond c (b % 2 ^ 52) (2 ^ 52 + b % 2 ^ 52)
    go true e = let z = eqb-true (exponent_field b) 0 e in absurd (omega arith)
    go false e = omega arith

-- ---- the remainder of two numbers by their patterns

module _
    (x y : Float) (f : T (fits binary64 x)) (g : T (fits binary64 y)) (a b : ℕ) (is-a : a ≡ to_bits binary64 x) (is-b : b ≡ to_bits binary64 y)
    (fine-a : exponent_field a ≡ 2047 → ⊥) (fine-b : exponent_field b ≡ 2047 → ⊥) where
  own : HasUnits x (leb (2 ^ 63) a) (digits_of a) (exponent_field a - 1)
  own = number-units x f a is-a (field-below a fine-a)

  other : HasUnits y (leb (2 ^ 63) b) (digits_of b) (exponent_field b - 1)
  other = number-units y g b is-b (field-below b fine-b)

  pub by-zero : digits_of b ≡ 0 → rem binary64 x y ≡ nan
  by-zero e =
      rem-zero x y (leb (2 ^ 63) a) (leb (2 ^ 63) b) (digits_of a) (exponent_field a - 1) (exponent_field b - 1) own
      (subst (λ d. HasUnits y (leb (2 ^ 63) b) d (exponent_field b - 1)) e other)

  by-units : 0 < digits_of b → rem binary64 x y
      ≡ round binary64 (leb (2 ^ 63) a) (digits_of a * 2 ^ (exponent_field a - 1) % (digits_of b * 2 ^ (exponent_field b - 1))) (2 ^ 1074)
  by-units h =
      rem-units x y (leb (2 ^ 63) a) (leb (2 ^ 63) b) (digits_of a) (exponent_field a - 1) (digits_of b) (exponent_field b - 1) own other h

  pub by-far : 0 < digits_of b → exponent_field a - 1 < exponent_field b - 1 → rem binary64 x y
      ≡ round binary64 (leb (2 ^ 63) a) (digits_of a * 2 ^ (exponent_field a - 1)) (2 ^ 1074)
  by-far h l =
      by-units h
      ∙ ap (λ z. round binary64 (leb (2 ^ 63) a) z (2 ^ 1074))
      (far (digits_of a) (exponent_field a - 1) (digits_of b) (exponent_field b - 1) (digits-below a) (digits-above b (exponent_field a - 1) l) l)

  pub by-near : 0 < digits_of b → exponent_field b - 1 ≤ exponent_field a - 1 → rem binary64 x y
      ≡ round binary64 (leb (2 ^ 63) a)
      (digits_of a * 2 ^ (exponent_field a - 1 - (exponent_field b - 1)) % digits_of b * 2 ^ (exponent_field b - 1)) (2 ^ 1074)
  by-near h l =
      by-units h
      ∙ ap (λ z. round binary64 (leb (2 ^ 63) a) z (2 ^ 1074)) (near (digits_of a) (exponent_field a - 1) (digits_of b) (exponent_field b - 1) h l)

pub holding : {b : Bool} → b ≡ true → T b
holding e = subst T (sym e) tt

pub above : (n d : ℕ) → n ≡ d → (n ≡ 0 → ⊥) → 0 < d
above n d e h = omega (arith, e, h)
