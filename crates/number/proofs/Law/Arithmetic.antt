-- What the functions of `arithmetic` lean on.
use Rattle.std.proofs.Common.{◌≡◌, ℕ, zero, suc, ◌*◌, ◌^◌, ◌<◌, Bool, true, false, cond, ◌||◌, T, ℤ, pos, negsuc, sym, refl, ◌∙◌, one-mul, pow-suc, mul-one, arith, eqb→eq, pow_pos}
use Rattle.std.specs.Float.{float_with_sign, float_signum}
use lib.Dec.{eqb-suc-zero}
use lib.Ieee.{Float, nan, inf, fin, binary64, lt, eq, is_nan, div, fits}
use Rattle.number.specs.Arithmetic.{nought, unit, abs_of, sign_of, negative_zero}
use Rattle.number.proofs.Law.Compare.{no, no', equals-zero}

-- ---- abs and sign

doubled : (p : ℕ) → 0 < p → p * 2 ≡ 1 → ⊥
doubled p h e = omega arith

-- a zero is written in one way
pub zero_exponent : (s : Bool) (e : ℤ) → T (fits binary64 (fin s zero e)) → e ≡ pos 0
unfolding fits
zero_exponent s (pos zero) h = refl
zero_exponent s (pos (suc k)) h = absurd (doubled (2 ^ k) (pow_pos k) (sym (pow-suc 2 k) ∙ sym (mul-one (2 ^ suc k)) ∙ eqb→eq (2 ^ suc k * 1) 1 h))
zero_exponent s (negsuc k) h = absurd (doubled (2 ^ k) (pow_pos k) (sym (pow-suc 2 k) ∙ sym (one-mul (2 ^ suc k)) ∙ eqb→eq (1 * 2 ^ suc k) 1 h))

pub abs-is : (x : Float) → float_with_sign false x ≡ abs_of x
unfolding float_with_sign
abs-is nan = refl
abs-is (inf s) = refl
abs-is (fin s m e) = refl

pub sign-level : (x : Float) → eq x nought ≡ true → nought ≡ sign_of x
unfolding eq
sign-level nan h = no h
sign-level (inf s) h = no h
sign-level (fin s zero e) h = refl
sign-level (fin s (suc m) e) h = no (sym (eqb-suc-zero m) ∙ sym (equals-zero s (suc m) e) ∙ h)

pub sign-other : (x : Float) → eq x nought ≡ false → float_signum x ≡ sign_of x
unfolding float_signum
sign-other nan h = refl
sign-other (inf s) h = refl
sign-other (fin s zero e) h = no' (sym (equals-zero s zero e) ∙ h)
sign-other (fin s (suc m) e) h = refl

-- ---- the order of min and max

-- of a zero, 1 / x has its sign
pub zero-sign : (x : Float) → eq x nought ≡ true → lt (div binary64 unit x) nought ≡ negative_zero x
unfolding eq div lt
zero-sign nan h = no h
zero-sign (inf s) h = no h
zero-sign (fin true zero e) h = refl
zero-sign (fin false zero e) h = refl
zero-sign (fin s (suc m) e) h = no (sym (eqb-suc-zero m) ∙ sym (equals-zero s (suc m) e) ∙ h)

pub zero-unsigned : (x : Float) → eq x nought ≡ false → false ≡ negative_zero x
zero-unsigned nan h = refl
zero-unsigned (inf s) h = refl
zero-unsigned (fin true m e) h = sym h ∙ equals-zero true m e
zero-unsigned (fin false m e) h = refl

-- ---- min and max, where neither is a NaN

pub some_nan : (x y z : Float) → is_nan x ≡ true → x ≡ cond (is_nan x || is_nan y) nan z
unfolding is_nan
some_nan nan y z h = refl
some_nan (inf s) y z h = no h
some_nan (fin s m e) y z h = no h

pub or-true : (b : Bool) → (b || true) ≡ true
or-true true = refl
or-true false = refl

pub other-nan : (x y z : Float) → is_nan y ≡ true → y ≡ cond (is_nan x || is_nan y) nan z
unfolding is_nan
other-nan x nan z h = rw (or-true (is_nan x))
other-nan x (inf s) z h = no h
other-nan x (fin s m e) z h = no h

pub no_nan : (x y z : Float) → is_nan x ≡ false → is_nan y ≡ false → z ≡ cond (is_nan x || is_nan y) nan z
no_nan x y z p q = rw (p, q)
