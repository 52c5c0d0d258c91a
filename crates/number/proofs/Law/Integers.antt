-- What the theorems of Plain.antt lean on: integers and division rounded down.
use Rattle.std.proofs.Common.{◌≡◌, ℕ, zero, suc, ◌+◌, ◌-◌, ◌*◌, ◌/◌, ◌<◌, ◌≤◌, Bool, true, false, cond, not, T, ltb, ℤ, pos, negsuc, ◌+ℤ◌, ◌-ℤ◌, ◌*ℤ◌, neg_ℤ, nat_abs, sym, refl, ap, ◌∙◌, le_of_suc-le-suc, mod-lt, suc-mul, mul-zero, div-add-mod', zero-mul, sub-add_cancel, arith, le→leb, ltb→lt, lt→ltb, leb→le}
use native.Mathlib.Nat.{div-eq_of_lt, zero-div}
use lib.IntN.{suc_ℤ, neg_ℤ-neg_ℤ, neg_ℤ-suc_ℤ, neg_ℤ-+ℤ, +ℤ-neg_ℤ_cancel}
use lib.Signed.{shr_z, le_z, lt_z, le_z_yes, lt_z_yes}
use lib.Ieee.{unlike}
use Rattle.number.specs.Rounding.{signed, Greatest, Least}

-- ---- signs

pub neg-signed : (s : Bool) (n : ℕ) → signed (not s) n ≡ neg_ℤ (signed s n)
neg-signed true n = sym (neg_ℤ-neg_ℤ (pos n))
neg-signed false n = refl

pub signed_mul : (s : Bool) (n d : ℕ) → signed s n *ℤ pos d ≡ signed s (n * d)
signed_mul true zero d = rw (zero-mul d)
signed_mul true (suc n) d = refl
signed_mul false n d = refl

pub twice-signed : (s : Bool) (n : ℕ) → signed s (2 * n) ≡ pos 2 *ℤ signed s n
twice-signed true zero = refl
twice-signed true (suc n) = refl
twice-signed false n = refl

pub neg-mul : (z : ℤ) (d : ℕ) → neg_ℤ (z *ℤ pos d) ≡ neg_ℤ z *ℤ pos d
neg-mul (pos zero) d = rw (zero-mul d)
neg-mul (pos (suc n)) d = refl
neg-mul (negsuc n) d = neg_ℤ-neg_ℤ (pos (suc n * d))

-- the sign of a product and of one factor is that of the other
pub signed-times : (s t : Bool) (a b : ℕ) → signed (unlike s t) a *ℤ signed t b ≡ signed s (a * b)
signed-times true false a b = signed_mul true a b
signed-times false false a b = refl
signed-times true true a zero = rw (mul-zero a)
signed-times true true a (suc b) = refl
signed-times false true zero zero = refl
signed-times false true zero (suc b) = rw (zero-mul (suc b))
signed-times false true (suc a) zero = rw (mul-zero (suc a))
signed-times false true (suc a) (suc b) = refl

pub signed-minus : (s : Bool) (a b : ℕ) → b ≤ a → signed s a -ℤ signed s b ≡ signed s (a - b)
signed-minus s a b h = ap (λ (z : ℤ). z -ℤ signed s b) (ap (signed s) (sym (sub-add_cancel h)) ∙ sym (sum s)) ∙ +ℤ-neg_ℤ_cancel (signed s (a - b)) (signed s b)
  where
    sum : (s : Bool) → signed s (a - b) +ℤ signed s b ≡ signed s (a - b + b)
    sum true = sym (neg_ℤ-+ℤ (pos (a - b)) (pos b))
    sum false = refl

-- a number rounded down keeps its sign, or is 0
pub floor-sign : (s : Bool) (a d : ℕ) → signed s (nat_abs (shr_z (signed s a) d)) ≡ shr_z (signed s a) d
floor-sign true zero d = rw (zero-div d)
floor-sign true (suc a) d = refl
floor-sign false a d = refl

-- so does a number plus a half
pub round-sign : (s : Bool) (a d : ℕ) → 0 < d → signed s (nat_abs (shr_z (signed s a +ℤ pos d) (2 * d))) ≡ shr_z (signed s a +ℤ pos d) (2 * d)
round-sign true zero d h = rw (div-eq_of_lt {n = 0 + d} {m = 2 * d} (omega arith))
round-sign true (suc a) d h = go (ltb d (suc a))
  where
    go : (b : Bool) → neg_ℤ (pos (nat_abs (shr_z (cond b (negsuc (suc a - suc d)) (pos (d - suc a))) (2 * d)))) ≡ shr_z (cond b (negsuc (suc a - suc d)) (pos (d - suc a))) (2 * d)
    go true = refl
    go false = rw (div-eq_of_lt {n = d - suc a} {m = 2 * d} (omega arith))
round-sign false a d h = refl

-- ---- order

neg-le : (k a : ℕ) → suc a ≤ k → T (le_z (neg_ℤ (pos k)) (negsuc a))
neg-le zero a h = absurd (omega arith)
neg-le (suc k) a h = le→leb a k (le_of_suc-le-suc h)

lt-neg : (k a : ℕ) → k ≤ a → T (lt_z (negsuc a) (neg_ℤ (pos k)))
lt-neg zero a h = tt
lt-neg (suc k) a h = lt→ltb k a h

flip-le : (a b : ℤ) → T (le_z a b) → T (le_z (neg_ℤ b) (neg_ℤ a))
flip-le (pos zero) (pos zero) h = tt
flip-le (pos zero) (pos (suc b)) h = tt
flip-le (pos (suc a)) (pos zero) h = absurd (omega (arith, leb→le (suc a) 0 h))
flip-le (pos (suc a)) (pos (suc b)) h = le→leb a b (le_of_suc-le-suc (leb→le (suc a) (suc b) h))
flip-le (pos a) (negsuc b) h = absurd h
flip-le (negsuc a) (pos zero) h = le→leb 0 (suc a) (omega arith)
flip-le (negsuc a) (pos (suc b)) h = tt
flip-le (negsuc a) (negsuc b) h = le→leb (suc b) (suc a) (omega (arith, leb→le b a h))

flip-lt : (a b : ℤ) → T (lt_z a b) → T (lt_z (neg_ℤ b) (neg_ℤ a))
flip-lt (pos zero) (pos zero) h = h
flip-lt (pos zero) (pos (suc b)) h = tt
flip-lt (pos (suc a)) (pos zero) h = absurd (omega (arith, ltb→lt (suc a) 0 h))
flip-lt (pos (suc a)) (pos (suc b)) h = lt→ltb a b (le_of_suc-le-suc (ltb→lt (suc a) (suc b) h))
flip-lt (pos a) (negsuc b) h = absurd h
flip-lt (negsuc a) (pos zero) h = lt→ltb 0 (suc a) (omega arith)
flip-lt (negsuc a) (pos (suc b)) h = tt
flip-lt (negsuc a) (negsuc b) h = lt→ltb (suc b) (suc a) (omega (arith, ltb→lt b a h))

-- ---- division rounded down

next-negative : (a d q : ℕ) → q * d ≤ a → T (lt_z (negsuc a) (suc_ℤ (negsuc q) *ℤ pos d))
next-negative a d zero h = tt
next-negative a d (suc q) h = lt-neg (suc q * d) a h

pub floor-greatest : (z : ℤ) (d : ℕ) → 0 < d → Greatest z d (shr_z z d)
floor-greatest (pos a) d h =
    record {
      not-above = le_z_yes (le→leb (a / d * d) a (omega (arith, div-add-mod' a d)));
      next-above = lt_z_yes (lt→ltb a (suc (a / d) * d) (omega (arith, div-add-mod' a d, mod-lt a h, suc-mul (a / d) d)));
    }
floor-greatest (negsuc a) d h =
    record {
      not-above = le_z_yes (neg-le (suc (a / d) * d) a (omega (arith, div-add-mod' a d, mod-lt a h, suc-mul (a / d) d)));
      next-above = lt_z_yes (next-negative a d (a / d) (omega (arith, div-add-mod' a d)));
    }

-- the least whole number not below z is the negated greatest not above -z
pub neg-greatest : (z n : ℤ) (d : ℕ) → Greatest (neg_ℤ z) d n → Least z d (neg_ℤ n)
neg-greatest z n d g =
    record {
      not-below = rw (← neg-mul n d) (le_z_yes (rw (neg_ℤ-neg_ℤ z) at (flip-le (n *ℤ pos d) (neg_ℤ z) g.not-above.le)));
      last-below = rw (← neg_ℤ-suc_ℤ n, ← neg-mul (suc_ℤ n) d) (lt_z_yes (rw (neg_ℤ-neg_ℤ z) at (flip-lt (neg_ℤ z) (suc_ℤ n *ℤ pos d) g.next-above.lt)));
    }
