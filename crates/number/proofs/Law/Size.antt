-- The sizes of a rounded magnitude: what division rounded down gives, of a number and of a number plus a half, in terms of the whole part q and the rest r.
use Rattle.std.proofs.Common.{◌≡◌, ℕ, zero, suc, ◌+◌, ◌-◌, ◌*◌, ◌/◌, ◌<◌, ◌≤◌, Bool, true, false, cond, eqb, ltb, leb, pos, negsuc, ◌+ℤ◌, neg_ℤ, nat_abs, sym, refl, ap, ◌∙◌, suc-mul, zero-mul, mul_left_comm, arith, ltb-false, ltb-true, le-ltb, eqb-true, leb-false, leb-true}
use native.Mathlib.Nat.{div-eq_of_lt}
use borrow.Author.Tests.{lt-leb}
use lib.Arith.{digits_div}
use lib.Dec.{eqb-suc-zero}
use lib.Signed.{shr_z}
use Rattle.number.specs.Rounding.{signed}

quotient : (a d q r : ℕ) → r < d → a ≡ q * d + r → a / d ≡ q
quotient a d q r h e = ap (λ (n : ℕ). n / d) e ∙ digits_div q h

-- ---- the floor of a negative number

below : (a d q r : ℕ) → r < d → q * d + r ≡ suc a → suc (a / d) ≡ cond (eqb r 0) q (suc q)
below a d zero zero h e = absurd (omega (arith, zero-mul d))
below a d (suc q) zero h e = ap suc (quotient a d q (d - 1) (omega arith) (omega (arith, suc-mul q d)))
below a d q (suc r) h e = rw (eqb-suc-zero r) (ap suc (quotient a d q r (omega arith) (omega arith)))

-- the size of the floor of ±a / d
pub floor-size : (s : Bool) (a d q r : ℕ) → r < d → q * d + r ≡ a → nat_abs (shr_z (signed s a) d) ≡ cond (eqb r 0) q (cond s (suc q) q)
floor-size true zero d zero zero h e = div-eq_of_lt h
floor-size true zero d (suc q) zero h e = absurd (omega (arith, suc-mul q d))
floor-size true zero d q (suc r) h e = absurd (omega arith)
floor-size true (suc a) d q r h e = below a d q r h e
floor-size false a d q r h e = quotient a d q r h (sym e) ∙ same (eqb r 0)
  where
    same : (b : Bool) → q ≡ cond b q q
    same true = refl
    same false = refl

-- a / d rounded up
pub ceil-size : (a d q r : ℕ) → r < d → q * d + r ≡ a → (a + d - 1) / d ≡ cond (eqb r 0) q (suc q)
ceil-size a d q zero h e = quotient (a + d - 1) d q (d - 1) (omega arith) (omega arith)
ceil-size a d q (suc r) h e = rw (eqb-suc-zero r) (quotient (a + d - 1) d (suc q) r (omega arith) (omega (arith, suc-mul q d)))

-- ---- a number plus a half

twice : (q d : ℕ) → q * (2 * d) ≡ 2 * (q * d)
twice q d = mul_left_comm q 2 d

above_half : (a d q r : ℕ) → r < d → q * d + r ≡ a → (2 * a + d) / (2 * d) ≡ cond (leb d (2 * r)) (suc q) q
above_half a d q r h e = go (leb d (2 * r)) refl
  where
    go : (b : Bool) → leb d (2 * r) ≡ b → (2 * a + d) / (2 * d) ≡ cond b (suc q) q
    go true t =
        let l = leb-true d (2 * r) t in
        quotient (2 * a + d) (2 * d) (suc q) (2 * r - d) (omega arith) (omega (arith, suc-mul q (2 * d), twice q d))
    go false t =
        let l = leb-false d (2 * r) t in
        quotient (2 * a + d) (2 * d) q (2 * r + d) (omega arith) (omega (arith, twice q d))

-- d - b divided by D and rounded down, by the side of zero on which it lies
difference : (b d D : ℕ) → nat_abs (shr_z (neg_ℤ (pos b) +ℤ pos d) D) ≡ cond (ltb d b) (suc ((b - suc d) / D)) ((d - b) / D)
difference zero d D = rw (le-ltb d 0 (omega arith)) (ap (λ (n : ℕ). n / D) (omega arith))
difference (suc b) d D = go (ltb d (suc b))
  where
    go : (t : Bool) → nat_abs (shr_z (cond t (negsuc (suc b - suc d)) (pos (d - suc b))) D) ≡ cond t (suc ((suc b - suc d) / D)) ((d - suc b) / D)
    go true = refl
    go false = refl

below_half : (a d q r : ℕ) → r < d → q * d + r ≡ a → cond (ltb d (2 * a)) (suc ((2 * a - suc d) / (2 * d))) ((d - 2 * a) / (2 * d)) ≡ cond (ltb d (2 * r)) (suc q) q
below_half a d q r h e = go (ltb d (2 * a)) (ltb d (2 * r)) refl refl
  where
    small : (q : ℕ) → 2 * (q * d) + 2 * r ≤ d → 0 ≡ q
    small zero l = refl
    small (suc q) l = absurd (omega (arith, suc-mul q d))

    carried : (q : ℕ) → q * d + r ≡ a → d < 2 * a → 2 * r ≤ d → suc ((2 * a - suc d) / (2 * d)) ≡ q
    carried zero e l m = absurd (omega (arith, zero-mul d))
    carried (suc q) e l m =
        ap suc (quotient (2 * a - suc d) (2 * d) q (d + 2 * r - 1) (omega arith) (omega (arith, suc-mul q d, twice q d)))

    go : (b c : Bool) → ltb d (2 * a) ≡ b → ltb d (2 * r) ≡ c → cond b (suc ((2 * a - suc d) / (2 * d))) ((d - 2 * a) / (2 * d)) ≡ cond c (suc q) q
    go true true x y =
        let l = ltb-true d (2 * r) y in
        ap suc (quotient (2 * a - suc d) (2 * d) q (2 * r - suc d) (omega arith) (omega (arith, twice q d)))
    go true false x y = carried q e (ltb-true d (2 * a) x) (ltb-false d (2 * r) y)
    go false true x y =
        let l = ltb-false d (2 * a) x in
        let m = ltb-true d (2 * r) y in
        absurd (omega arith)
    go false false x y =
        let l = ltb-false d (2 * a) x in
        div-eq_of_lt (omega arith) ∙ small q (omega arith)

-- the size of the floor of ±a / d + 1 / 2: a half goes away from zero where that is up
abbrev pub rises : Bool → ℕ → ℕ → Bool
rises s d r = cond s (ltb d (2 * r)) (leb d (2 * r))

-- without a rest neither test holds
no-rise : (s : Bool) (d r : ℕ) → r < d → r ≡ 0 → rises s d r ≡ false
no-rise true d r h z = le-ltb d (2 * r) (omega arith)
no-rise false d r h z = lt-leb d (2 * r) (omega arith)

pub round-size : (s : Bool) (a d q r : ℕ) → r < d → q * d + r ≡ a →
    nat_abs (shr_z (signed s (2 * a) +ℤ pos d) (2 * d)) ≡ cond (eqb r 0) q (cond (rises s d r) (suc q) q)
round-size s a d q r h e = by_sign s ∙ go (eqb r 0) refl
  where
    by_sign : (s : Bool) → nat_abs (shr_z (signed s (2 * a) +ℤ pos d) (2 * d)) ≡ cond (rises s d r) (suc q) q
    by_sign true = difference (2 * a) d (2 * d) ∙ below_half a d q r h e
    by_sign false = above_half a d q r h e

    go : (z : Bool) → eqb r 0 ≡ z → cond (rises s d r) (suc q) q ≡ cond z q (cond (rises s d r) (suc q) q)
    go true z = rw (no-rise s d r h (eqb-true r 0 z))
    go false z = refl
