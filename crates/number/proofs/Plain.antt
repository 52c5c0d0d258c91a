-- What a reader expects of NaN, floor, ceil, round, the remainder and a colour's byte, proved of their definitions.
use Rattle.std.proofs.Common.{◌≡◌, ℕ, zero, suc, ◌+◌, ◌*◌, ◌/◌, ◌%◌, ◌^◌, ◌<◌, ◌≤◌, min, Bool, true, false, cond, not, T, eqb, ℤ, pos, negsuc, ◌+ℤ◌, ◌-ℤ◌, ◌*ℤ◌, neg_ℤ, nat_abs, sym, refl, ap, ◌∙◌, subst, mul-le-mul_right, mod-lt, mul_assoc, suc-mul, mul-pos, div-add-mod', zero-mul, mul-one, div-le_self, mul_left_comm, add-one, arith, eqb-true}
use native.Mathlib.Nat.{mod-eq-sub-div-mul, lt-div-mul-add}
use borrow.Author.Tests.{eqb-false}
use lib.Dec.{eqb-suc-zero}
use lib.Signed.{shr_z}
use lib.Ieee.{Float, nan, inf, fin, binary64, up, down, unlike, round, rem, lt, is_nan, neg, fits, nan_bits, of_bits, to_bits}
use lib.Ieee.Back.{round_whole}
use lib.Ieee.Bits.{is_true, nan_bits_is}
use lib.Ieee.Exact.{HasValue}
use lib.Ieee.Fits.{up_pos, down_pos, neg-fits}
use lib.Ieee.Scale.{finite}
use Rattle.number.specs.Arithmetic.{nought, unit}
use Rattle.number.specs.Rounding.{signed, negative, floor_of, ceil_of, round_of, IsWhole, IsFloor, IsCeil, IsRound, LeftOver, IsRemainder, Greatest}
use Rattle.number.specs.Colour.{component_of, byte_of, IsByte}
use Rattle.number.proofs.Law.Compare.{only_nan, no', below-zero, fits-says}
use Rattle.number.proofs.Law.Size.{floor-size, rises, round-size}
use Rattle.number.proofs.Law.Rounding.{size_exact}
use Rattle.number.proofs.Law.Remainder.{remainder-exact}
use Rattle.number.proofs.Law.Integers.{neg-signed, signed_mul, signed-times, signed-minus, twice-signed, floor-sign, round-sign, floor-greatest, neg-greatest, neg-mul}

-- ---- "Every NaN is one NaN, stored as 0x7FF8000000000000."

pub one-nan : (bits : ℕ) → nan_bits binary64 bits ≡ true → of_bits binary64 bits ≡ nan
one-nan bits e = only_nan (of_bits binary64 bits) (sym (nan_bits_is binary64 bits) ∙ e)

pub nan-stored : to_bits binary64 nan ≡ 0x7FF8000000000000
unfolding to_bits
nan-stored = refl

-- ---- the whole number found is held exactly

-- A number with a fraction is below 2 ^ 53 in size, so that the next whole number is a binary64 too.
fraction-small : (s : Bool) (m : ℕ) (e : ℤ) → fits binary64 (fin s m e) ≡ true → (m * up e % down e ≡ 0 → ⊥) → m * up e / down e < 2 ^ 53
fraction-small s m (pos k) f h = absurd (h (omega arith))
fraction-small s zero (negsuc k) f h = omega (arith, div-le_self (0 * 1) (2 ^ suc k))
fraction-small s (suc m) (negsuc k) f h = omega (arith, div-le_self (suc m * 1) (2 ^ suc k), (fits-says s m (negsuc k) (subst T (sym f) tt)).digits)

held : (s : Bool) (m : ℕ) (e : ℤ) (t : Bool) (size : ℕ) → fits binary64 (fin s m e) ≡ true →
    size ≡ cond (eqb (m * up e % down e) 0) (m * up e / down e) (cond t (suc (m * up e / down e)) (m * up e / down e)) → HasValue (round binary64 s size 1) s size 1
held s m e t size f g = go (eqb (m * up e % down e) 0) t refl g
  where
    q : ℕ
    q = m * up e / down e

    go : (z t : Bool) → eqb (m * up e % down e) 0 ≡ z → size ≡ cond z q (cond t (suc q) q) → HasValue (round binary64 s size 1) s size 1
    go true t z g = rw g (size_exact s m e (subst T (sym f) tt) (eqb-true (m * up e % down e) 0 z))
    go false true z g = round_whole binary64 s size (omega (arith, fraction-small s m e f (eqb-false (m * up e % down e) 0 z)))
    go false false z g = round_whole binary64 s size (omega (arith, fraction-small s m e f (eqb-false (m * up e % down e) 0 z)))

is_whole : (x r : Float) (n : ℤ) → HasValue r (negative x) (nat_abs n) 1 → signed (negative x) (nat_abs n) ≡ n → IsWhole x r n
is_whole x nan n v g = absurd v
is_whole x (inf t) n v g = absurd v
is_whole x (fin t m e) n v g =
    record {
      is_finite = tt;
      exact =
          (λ i. signed (v.0 i) ((sym (mul-one (m * up e)) ∙ v.1) i))
          ∙ sym (signed_mul (negative x) (nat_abs n) (down e)) ∙ ap (λ (z : ℤ). z *ℤ pos (down e)) g;
      sign = v.0;
    }

-- ---- floor, ceil, round

module _ (s : Bool) (m : ℕ) (e : ℤ) (f : fits binary64 (fin s m e) ≡ true) where
  floor-finite : IsFloor (fin s m e) (floor_of (fin s m e))
  unfolding floor_of
  floor-finite =
      let n = shr_z (signed s (m * up e)) (down e) in (
        n,
        is_whole (fin s m e) (round binary64 s (nat_abs n) 1) n
            (held s m e s (nat_abs n) f (floor-size s (m * up e) (down e) (m * up e / down e) (m * up e % down e) (mod-lt (m * up e) (down_pos e)) (div-add-mod' (m * up e) (down e))))
            (floor-sign s (m * up e) (down e)),
        floor-greatest (signed s (m * up e)) (down e) (down_pos e),
      )

  round-finite : IsRound (fin s m e) (round_of (fin s m e))
  unfolding round_of
  round-finite =
      let a = m * up e in
      let z = signed s (2 * a) +ℤ pos (down e) in
      let n = shr_z z (2 * down e) in (
        n,
        is_whole (fin s m e) (round binary64 s (nat_abs n) 1) n
            (held s m e (rises s (down e) (a % down e)) (nat_abs n) f (round-size s a (down e) (a / down e) (a % down e) (mod-lt a (down_pos e)) (div-add-mod' a (down e))))
            (round-sign s (2 * a) (down e) (down_pos e)),
        subst (λ (y : ℤ). Greatest (y +ℤ pos (down e)) (2 * down e) n) (twice-signed s a) (floor-greatest z (2 * down e) (omega (arith, down_pos e))),
      )

-- the negated whole number
neg-whole : (s : Bool) (m : ℕ) (e : ℤ) (r : Float) (n : ℤ) → IsWhole (fin (not s) m e) r n → IsWhole (fin s m e) (neg r) (neg_ℤ n)
unfolding neg
neg-whole s m e nan n w = absurd w.is_finite
neg-whole s m e (inf t) n w = absurd w.is_finite
neg-whole s m e (fin t k d) n w =
    record {
      is_finite = tt;
      exact = neg-signed t (k * up d) ∙ ap neg_ℤ w.exact ∙ neg-mul n (down d);
      sign = ap not w.sign ∙ not-not s;
    }
  where
    not-not : (s : Bool) → not (not s) ≡ s
    not-not true = refl
    not-not false = refl

ceil-finite : (s : Bool) (m : ℕ) (e : ℤ) → fits binary64 (fin s m e) ≡ true → IsCeil (fin s m e) (ceil_of (fin s m e))
unfolding ceil_of neg
ceil-finite s m e f =
    let t : fits binary64 (fin (not s) m e) ≡ true = is_true (fits binary64 (fin (not s) m e)) (neg-fits binary64 (fin s m e) (subst T (sym f) tt)) in
    let g = floor-finite (not s) m e t in (
      neg_ℤ g.0,
      neg-whole s m e (floor_of (fin (not s) m e)) g.0 g.1,
      neg-greatest (signed s (m * up e)) g.0 (down e) (subst (λ (z : ℤ). Greatest z (down e) g.0) (neg-signed s (m * up e)) g.2),
    )

-- ---- the theorems

of-finite : (P : Float → Type 0) → ((s : Bool) (m : ℕ) (e : ℤ) → fits binary64 (fin s m e) ≡ true → P (fin s m e)) →
    (x : Float) → fits binary64 x ≡ true → T (finite x) → P x
of-finite P p nan f h = absurd h
of-finite P p (inf s) f h = absurd h
of-finite P p (fin s m e) f h = p s m e f

pub floor-is : (x : Float) → fits binary64 x ≡ true → T (finite x) → IsFloor x (floor_of x)
floor-is = of-finite (λ x. IsFloor x (floor_of x)) floor-finite

pub ceil-is : (x : Float) → fits binary64 x ≡ true → T (finite x) → IsCeil x (ceil_of x)
ceil-is = of-finite (λ x. IsCeil x (ceil_of x)) ceil-finite

pub round_is : (x : Float) → fits binary64 x ≡ true → T (finite x) → IsRound x (round_of x)
round_is = of-finite (λ x. IsRound x (round_of x)) round-finite

-- ---- the remainder

module _ (s t : Bool) (m n : ℕ) (e d : ℤ) (some : 0 < n) where
  abbrev a : ℕ
  a = m * up e * down d

  abbrev b : ℕ
  b = n * up d * down e

  -- x - n y, over the common denominator
  difference : signed s (m * up e) *ℤ pos (down d) -ℤ signed (unlike s t) (a / b) *ℤ signed t (n * up d) *ℤ pos (down e) ≡ signed s (a % b)
  difference =
      let times : a / b * (n * up d) * down e ≡ a / b * b = mul_assoc (a / b) (n * up d) (down e) in
      ap (λ (z : ℤ). z -ℤ signed (unlike s t) (a / b) *ℤ signed t (n * up d) *ℤ pos (down e)) (signed_mul s (m * up e) (down d))
      ∙ ap (λ (z : ℤ). signed s a -ℤ z *ℤ pos (down e)) (signed-times s t (a / b) (n * up d))
      ∙ ap (λ (z : ℤ). signed s a -ℤ z) (signed_mul s (a / b * (n * up d)) (down e) ∙ ap (signed s) times)
      ∙ signed-minus s a (a / b * b) (omega (arith, div-add-mod' a b))
      ∙ ap (signed s) (sym (mod-eq-sub-div-mul a b))

  left_over : (r : Float) → HasValue r s (a % b) (down e * down d) → LeftOver (fin s m e) (fin t n d) r
  left_over nan v = absurd v
  left_over (inf u) v = absurd v
  left_over (fin u k c) v =
      record {
        q = a / b;
        not-over = rw (mul_assoc (a / b) (n * up d) (down e)) (omega (arith, div-add-mod' a b));
        next-over = rw (mul_assoc (suc (a / b)) (n * up d) (down e), suc-mul (a / b) b) (lt-div-mul-add (mul-pos (mul-pos some (up_pos d)) (down_pos e)));
        is_finite = tt;
        exact =
            signed_mul u (k * up c) (down e * down d)
            ∙ (λ i. signed (v.0 i) (v.1 i))
            ∙ sym (signed_mul s (a % b) (down c))
            ∙ ap (λ (z : ℤ). z *ℤ pos (down c)) (sym difference);
        sign = v.0;
      }

pub remainder_is : (x y : Float) → fits binary64 x ≡ true → fits binary64 y ≡ true → IsRemainder x y (rem binary64 x y)
unfolding rem
remainder_is nan y f g = refl
remainder_is (inf s) y f g = refl
remainder_is (fin s m e) nan f g = refl
remainder_is (fin s m e) (inf t) f g = refl
remainder_is (fin s m e) (fin t zero d) f g = refl
remainder_is (fin s m e) (fin t (suc n) d) f g =
    rw (eqb-suc-zero n)
    (left_over s t m (suc n) e d (omega arith) _ (remainder-exact s t m (suc n) e d (omega arith) (subst T (sym f) tt) (subst T (sym g) tt)))

-- ---- a colour's byte

-- the least of 255 and a quotient
least-byte : (m : ℕ) (e : ℤ) → IsByte (fin false m e) (byte_of (fin false m e))
unfolding byte_of
least-byte m e =
    let t = 510 * (m * up e) + down e in
    let w = 2 * down e in
    let k = t / w in
    let p : 0 < w = omega (arith, down_pos e) in
    let b = min 255 k in
    let spread : 2 * b * down e ≡ b * w = mul_assoc 2 b (down e) ∙ mul_left_comm 2 b (down e) in
    let reaches : b * w ≤ k * w = mul-le-mul_right w (omega arith) in
    record {
      reached = omega (arith, div-add-mod' t w);
      limit = omega arith;
      next = λ h.
          let same : b ≡ k = omega arith in
          let after : 2 * (b + 1) * down e ≡ k * w + w = mul_assoc 2 (b + 1) (down e) ∙ mul_left_comm 2 (b + 1) (down e) ∙ ap (λ (n : ℕ). n * w) (add-one b ∙ ap suc same) ∙ suc-mul k w in
          rw after (lt-div-mul-add p);
    }

-- of a number that is not below 0
unsigned-byte : (s : Bool) (m : ℕ) (e : ℤ) → lt (fin s m e) nought ≡ false → IsByte (fin s m e) (byte_of (fin s m e))
unfolding byte_of
unsigned-byte false m e h = least-byte m e
unsigned-byte true zero e h =
    record {
      reached = omega arith;
      limit = omega arith;
      next = λ l. omega (arith, zero-mul (up e), down_pos e);
    }
unsigned-byte true (suc m) e h = no' (sym (ap not (eqb-suc-zero m)) ∙ sym (below-zero true (suc m) e) ∙ h)

pub byte-is : (x : Float) → IsByte (component_of x) (byte_of (component_of x))
unfolding component_of is_nan lt
byte-is nan = least-byte 0 (pos 0)
byte-is (inf true) = least-byte 0 (pos 0)
byte-is (inf false) = least-byte 1 (pos 0)
byte-is (fin s m e) = go (lt (fin s m e) nought) (lt unit (fin s m e)) refl
  where
    go : (b c : Bool) → lt (fin s m e) nought ≡ b → IsByte (cond b nought (cond c unit (fin s m e))) (byte_of (cond b nought (cond c unit (fin s m e))))
    go true c h = least-byte 0 (pos 0)
    go false true h = least-byte 1 (pos 0)
    go false false h = unsigned-byte s m e h
