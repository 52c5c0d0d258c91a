-- What the machine's comparisons of floats say: with zero, with a NaN, and of exact values.
use Rattle.std.proofs.Common.{◌≡◌, ℕ, zero, suc, ◌+◌, ◌*◌, ◌%◌, ◌^◌, ◌<◌, ◌≤◌, Bool, true, false, not, ◌&&◌, ◌||◌, T, eqb, ltb, leb, ℤ, sym, refl, ap, ◌∙◌, subst, mul-le-mul_right, zero-lt-suc, lt_of_mul-lt-mul_right, mul-lt-mul_of_pos_right, mul-pos, zero-mul, mul-one, mul_right_comm, le_of_mul-le-mul_right, arith, eqb→eq, ltb→lt, leb→le, ltb-false, ltb-true, le-ltb, lt-ltb, ne_eqb}
use mathlib.Core.Bool.{beq}
use lib.Dec.{eqb-suc-zero}
use lib.Ieee.{Float, nan, inf, fin, binary64, up, down, lt, eq, ne, is_nan, fits}
use lib.Ieee.Compare.{differs_from_itself, nan_differs}
use lib.Ieee.Exact.{HasValue}
use lib.Ieee.Fits.{up_pos, down_pos, and_l, and_r}
use Rattle.number.specs.Arithmetic.{nought}

pub no : {A : Type 0} → false ≡ true → A
no e = absurd (subst T (sym e) tt)

pub no' : {A : Type 0} → true ≡ false → A
no' e = absurd (subst T e tt)

-- ---- with zero

positive-size : (m : ℕ) (e : ℤ) → 0 < suc m * up e * 1
positive-size m e = subst (λ (n : ℕ). 0 < n) (sym (mul-one (suc m * up e))) (mul-pos (zero-lt-suc m) (up_pos e))

nothing : (e : ℤ) → 0 * up e * 1 ≡ 0
nothing e = mul-one (0 * up e) ∙ zero-mul (up e)

pub below-zero : (s : Bool) (m : ℕ) (e : ℤ) → lt (fin s m e) nought ≡ (s && not (eqb m 0))
unfolding lt
below-zero false m e = le-ltb (m * up e * 1) (0 * down e) (omega (arith, zero-mul (down e)))
below-zero true zero e = le-ltb 0 (0 * up e * 1 + 0 * down e) (omega (arith, nothing e, zero-mul (down e)))
below-zero true (suc m) e =
    lt-ltb 0 (suc m * up e * 1 + 0 * down e) (omega (arith, positive-size m e)) ∙ ap not (sym (eqb-suc-zero m))

pub above_zero : (s : Bool) (m : ℕ) (e : ℤ) → lt nought (fin s m e) ≡ (not s && not (eqb m 0))
unfolding lt
above_zero true m e = refl
above_zero false zero e = le-ltb (0 * down e) (0 * up e * 1) (omega (arith, nothing e))
above_zero false (suc m) e =
    lt-ltb (0 * down e) (suc m * up e * 1) (omega (arith, positive-size m e, zero-mul (down e))) ∙ ap not (sym (eqb-suc-zero m))

zeros-level : (s : Bool) (a b : ℕ) → a ≡ 0 → b ≡ 0 → (eqb a b && (beq s false || eqb a 0)) ≡ true
zeros-level true a b p q = rw (p, q)
zeros-level false a b p q = rw (p, q)

pub equals-zero : (s : Bool) (m : ℕ) (e : ℤ) → eq (fin s m e) nought ≡ eqb m 0
unfolding eq
equals-zero s zero e = zeros-level s (0 * up e * 1) (0 * down e) (nothing e) (zero-mul (down e))
equals-zero s (suc m) e =
    ap (λ (b : Bool). b && (beq s false || eqb (suc m * up e * 1) 0))
    (ne_eqb (suc m * up e * 1) (0 * down e) (λ h. omega (arith, h, zero-mul (down e), positive-size m e)))
    ∙ sym (eqb-suc-zero m)

-- ---- with a NaN

pub nan_is : (x : Float) → ne x x ≡ is_nan x
unfolding is_nan
nan_is x = go (ne x x) x refl
  where
    go : (b : Bool) (x : Float) → ne x x ≡ b → b ≡ is_nan x
    go true x e = sym (ap is_nan (differs_from_itself x (subst T (sym e) tt)))
    go false nan e = sym e ∙ nan_differs
    go false (inf s) e = refl
    go false (fin s m k) e = refl

pub only_nan : (x : Float) → is_nan x ≡ true → x ≡ nan
unfolding is_nan
only_nan nan h = refl
only_nan (inf s) h = no h
only_nan (fin s m e) h = no h

-- ---- by exact values

ltb-scale : (x y a b c k : ℕ) → 0 < c → 0 < k → x * c ≡ a * k → y * c ≡ b * k → ltb x y ≡ ltb a b
ltb-scale x y a b c k hc hk p q = go (ltb a b) refl
  where
    go : (t : Bool) → ltb a b ≡ t → ltb x y ≡ t
    go true e = lt-ltb x y (lt_of_mul-lt-mul_right c (rw (p, q) (mul-lt-mul_of_pos_right (ltb-true a b e) hk)))
    go false e = le-ltb x y (le_of_mul-le-mul_right (rw (p, q) (mul-le-mul_right k (ltb-false a b e))) hc)

-- a float of the value a / c against m * 2 ^ e, and the other way
crossed : (a c n : ℕ) (d e : ℤ) → n * up d * c ≡ a * down d → n * up d * down e * c ≡ a * down e * down d
crossed a c n d e v = mul_right_comm (n * up d) (down e) c ∙ ap (λ (z : ℕ). z * down e) v ∙ mul_right_comm a (down d) (down e)

pub value-lt : (t : Float) (a c m : ℕ) (e : ℤ) → 0 < c → HasValue t false a c → lt t (fin false m e) ≡ ltb (a * down e) (m * up e * c)
unfolding lt
value-lt nan a c m e hc v = absurd v
value-lt (inf s) a c m e hc v = absurd v
value-lt (fin true n d) a c m e hc v = no' v.0
value-lt (fin false n d) a c m e hc v =
    ltb-scale (n * up d * down e) (m * up e * down d) (a * down e) (m * up e * c) c (down d) hc (down_pos d)
    (crossed a c n d e v.1)
    (mul_right_comm (m * up e) (down d) c)

pub lt-value : (t : Float) (a c m : ℕ) (e : ℤ) → 0 < c → HasValue t false a c → lt (fin false m e) t ≡ ltb (m * up e * c) (a * down e)
unfolding lt
lt-value nan a c m e hc v = absurd v
lt-value (inf s) a c m e hc v = absurd v
lt-value (fin true n d) a c m e hc v = no' v.0
lt-value (fin false n d) a c m e hc v =
    ltb-scale (m * up e * down d) (n * up d * down e) (m * up e * c) (a * down e) c (down d) hc (down_pos d)
    (mul_right_comm (m * up e) (down d) c)
    (crossed a c n d e v.1)

-- ---- a number that fits binary64, other than zero

pub record Fits64 (m : ℕ) (e : ℤ) : Type 0 where
  pub odd : m % 2 ≡ 1
  pub digits : m < 2 ^ 53
  pub smallest : down e ≤ 2 ^ 1074
  pub limit : m * up e < 2 ^ 1024 * down e

pub fits-says : (s : Bool) (m : ℕ) (e : ℤ) → T (fits binary64 (fin s (suc m) e)) → Fits64 (suc m) e
unfolding fits
fits-says s m e t =
    let a = eqb (suc m % 2) 1 in
    let b = ltb (suc m) (2 ^ 53) in
    let c = leb (down e) (2 ^ 1074) in
    let d = ltb (suc m * up e) (2 ^ 1024 * down e) in
    let ab : T (a && b) = and_l (a && b) c (and_l (a && b && c) d t) in
    record {
      odd = eqb→eq (suc m % 2) 1 (and_l a b ab);
      digits = ltb→lt (suc m) (2 ^ 53) (and_r a b ab);
      smallest = leb→le (down e) (2 ^ 1074) (and_r (a && b) c (and_l (a && b && c) d t));
      limit = ltb→lt (suc m * up e) (2 ^ 1024 * down e) (and_r (a && b && c) d t);
    }
