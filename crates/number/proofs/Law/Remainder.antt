-- The remainder is exact: it is a multiple of the smaller of two units, and not above what that unit was counted for.
use Rattle.std.proofs.Common.{◌≡◌, ℕ, zero, suc, ◌+◌, ◌-◌, ◌*◌, ◌/◌, ◌%◌, ◌^◌, ◌<◌, ◌≤◌, Bool, true, false, T, leb, ℤ, pos, negsuc, sym, refl, ap, ◌∙◌, subst, ap₂, lt_of_lt_of_le, lt_of_le_of_lt, le_of_lt, mul-le-mul_right, mod-lt, mul_assoc, mul_comm, add-mul, mul-lt-mul_of_pos_right, mul-pos, one-mul, pow-suc, div-add-mod', zero-mul, mul-one, sub-add_cancel, mul_right_comm, arith, lit<, lit≤, eqb→eq, pow_pos, pow_mono, pow-add, shl_lt, leb-false, leb-true}
use native.Mathlib.Nat.{mod-le}
use lib.Arith.{digits_mod}
use lib.Pow.{pow-lt}
use lib.Ieee.{fin, binary64, up, down, round, fits}
use lib.Ieee.Exact.{HasValue, round_exact}
use lib.Ieee.Fits.{down_pos, up_pos}
use Rattle.number.proofs.Law.Compare.{fits-says}

-- ---- a remainder of multiples

pub scale-mod : (a b c : ℕ) → 0 < b → 0 < c → a * c % (b * c) ≡ a % b * c
scale-mod a b c B C =
    let parts : a * c ≡ a / b * (b * c) + a % b * c =
    ap (λ (z : ℕ). z * c) (sym (div-add-mod' a b)) ∙ add-mul (a / b * b) (a % b) c ∙ ap (λ (z : ℕ). z + a % b * c) (mul_assoc (a / b) b c) in
    ap (λ (z : ℕ). z % (b * c)) parts ∙ digits_mod (a / b) (mul-lt-mul_of_pos_right (mod-lt a B) C)

-- ---- a binary64 is m * 2 ^ i of the smallest one

pub record Scaled (m : ℕ) (e : ℤ) : Type 0 where
  pub place : ℕ
  pub scale : up e * 2 ^ 1074 ≡ 2 ^ place * down e
  pub digits : m < 2 ^ 53
  pub limit : m * 2 ^ place < 2 ^ 2098

up-scale : (k : ℕ) → 2 ^ k * 2 ^ 1074 ≡ 2 ^ (k + 1074) * 1
up-scale k = sym (pow-add 2 k 1074) ∙ sym (mul-one (2 ^ (k + 1074)))

power_le : (j k : ℕ) → 2 ^ j ≤ 2 ^ k → j ≤ k
power_le j k h = go (leb j k) refl
  where
    go : (t : Bool) → leb j k ≡ t → j ≤ k
    go true e = leb-true j k e
    go false e = let l = pow-lt (leb-false j k e) in absurd (omega (arith, l, h))

pub scaled : (s : Bool) (m : ℕ) (e : ℤ) → T (fits binary64 (fin s m e)) → Scaled m e
unfolding fits
scaled s zero (pos k) f =
    record { place = k + 1074; scale = up-scale k; digits = lit< tt; limit = subst (λ (n : ℕ). n < 2 ^ 2098) (sym (zero-mul (2 ^ (k + 1074)))) (lit< tt) }
scaled s zero (negsuc k) f = absurd (omega (arith, eqb→eq (1 * 2 ^ suc k) 1 f, one-mul (2 ^ suc k), pow-suc 2 k, pow_pos k))
scaled s (suc m) (pos k) f =
    let h = fits-says s m (pos k) f in
    let small : suc m * 2 ^ k < 2 ^ 1024 = subst (λ (n : ℕ). suc m * 2 ^ k < n) (mul-one (2 ^ 1024)) h.limit in
    let grown : suc m * 2 ^ k * 2 ^ 1074 ≡ suc m * 2 ^ (k + 1074) = mul_assoc (suc m) (2 ^ k) (2 ^ 1074) ∙ ap (λ (n : ℕ). suc m * n) (sym (pow-add 2 k 1074)) in
    record {
      place = k + 1074;
      scale = up-scale k;
      digits = h.digits;
      limit = subst (λ (n : ℕ). n < 2 ^ 2098) grown (lt_of_lt_of_le (mul-lt-mul_of_pos_right small (pow_pos 1074)) (lit≤ tt));
    }
scaled s (suc m) (negsuc k) f =
    let h = fits-says s m (negsuc k) f in
    let place = 1074 - suc k in
    let back : place + suc k ≡ 1074 = sub-add_cancel (power_le (suc k) 1074 h.smallest) in
    let room : 53 + place ≤ 2098 = omega arith in
    record {
      place = place;
      scale = one-mul (2 ^ 1074) ∙ ap (λ (n : ℕ). 2 ^ n) (sym back) ∙ pow-add 2 place (suc k);
      digits = h.digits;
      limit = lt_of_lt_of_le (shl_lt 53 place h.digits) (pow_mono room);
    }

-- ---- the remainder of two such numbers is one

-- q * 2 ^ t of the smallest, with few digits
record Few (r : ℕ) : Type 0 where
  q : ℕ
  t : ℕ
  digits : q < 2 ^ 53
  limit : q * 2 ^ t < 2 ^ 2098
  is : r ≡ q * 2 ^ t

pub split-power : (n i j : ℕ) → i ≤ j → n * 2 ^ j ≡ n * 2 ^ (j - i) * 2 ^ i
split-power n i j h = ap (λ (k : ℕ). n * 2 ^ k) (sym (sub-add_cancel h)) ∙ ap (λ (z : ℕ). n * z) (pow-add 2 (j - i) i) ∙ sym (mul_assoc n (2 ^ (j - i)) (2 ^ i))

few : (m n i j : ℕ) → 0 < n → m < 2 ^ 53 → n < 2 ^ 53 → m * 2 ^ i < 2 ^ 2098 → n * 2 ^ j < 2 ^ 2098 → Few (m * 2 ^ i % (n * 2 ^ j))
few m n i j N M D LM LN = go (leb i j) refl
  where
    go : (b : Bool) → leb i j ≡ b → Few (m * 2 ^ i % (n * 2 ^ j))
    go true e =
        let v = n * 2 ^ (j - i) in
        let less : m % v ≤ m = mod-le m v in
        record {
          q = m % v;
          t = i;
          digits = lt_of_le_of_lt less M;
          limit = lt_of_le_of_lt (mul-le-mul_right (2 ^ i) less) LM;
          is = ap (λ (z : ℕ). m * 2 ^ i % z) (split-power n i j (leb-true i j e)) ∙ scale-mod m v (2 ^ i) (mul-pos N (pow_pos (j - i))) (pow_pos i);
        }
    go false e =
        let u = m * 2 ^ (i - j) in
        let less : u % n < n = mod-lt u N in
        record {
          q = u % n;
          t = j;
          digits = lt_of_lt_of_le less (le_of_lt D);
          limit = lt_of_le_of_lt (mul-le-mul_right (2 ^ j) (le_of_lt less)) LN;
          is = ap (λ (z : ℕ). z % (n * 2 ^ j)) (split-power m j i (le_of_lt (leb-false i j e))) ∙ scale-mod u n (2 ^ j) N (pow_pos j);
        }

-- m * 2 ^ e over the common denominator, in units of the smallest
unit-scale : (m i : ℕ) (e : ℤ) (k : ℕ) → up e * 2 ^ 1074 ≡ 2 ^ i * down e → m * up e * k * 2 ^ 1074 ≡ m * 2 ^ i * (down e * k)
unit-scale m i e k h =
    mul_right_comm (m * up e) k (2 ^ 1074)
    ∙ ap (λ (z : ℕ). z * k) (mul_assoc m (up e) (2 ^ 1074) ∙ ap (λ (z : ℕ). m * z) h ∙ sym (mul_assoc m (2 ^ i) (down e)))
    ∙ mul_assoc (m * 2 ^ i) (down e) k

pub remainder-exact : (s t : Bool) (m n : ℕ) (e d : ℤ) → 0 < n → T (fits binary64 (fin s m e)) → T (fits binary64 (fin t n d)) →
    let r = m * up e * down d % (n * up d * down e) in HasValue (round binary64 s r (down e * down d)) s r (down e * down d)
remainder-exact s t m n e d N f g =
    let x = scaled s m e f in
    let y = scaled t n d g in
    let a = m * up e * down d in
    let b = n * up d * down e in
    let c = down e * down d in
    let C : 0 < c = mul-pos (down_pos e) (down_pos d) in
    let B : 0 < b = mul-pos (mul-pos N (up_pos d)) (down_pos e) in
    let w = few m n x.place y.place N x.digits y.digits x.limit y.limit in
    let in-units : a % b * 2 ^ 1074 ≡ w.q * 2 ^ w.t * c =
    sym (scale-mod a b (2 ^ 1074) B (pow_pos 1074))
    ∙ ap₂ (λ (u v : ℕ). u % v) (unit-scale m x.place e (down d) x.scale) (unit-scale n y.place d (down e) y.scale ∙ ap (λ (z : ℕ). n * 2 ^ y.place * z) (mul_comm (down d) (down e)))
    ∙ scale-mod (m * 2 ^ x.place) (n * 2 ^ y.place) c (mul-pos N (pow_pos y.place)) C
    ∙ ap (λ (z : ℕ). z * c) w.is in
    round_exact binary64 s (a % b) c w.q w.t C w.digits w.limit in-units
