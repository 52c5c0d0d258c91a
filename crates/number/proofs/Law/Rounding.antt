-- What `around`, `floor` and `round` lean on.
use Rattle.std.proofs.Common.{◌≡◌, ℕ, zero, suc, ◌+◌, ◌*◌, ◌/◌, ◌%◌, ◌^◌, ◌<◌, ◌≤◌, Bool, true, false, cond, not, ◌&&◌, T, eqb, ltb, leb, ℤ, pos, negsuc, sym, refl, ap, ◌∙◌, subst, lt_of_lt_of_le, add-zero, mod-lt, mul_assoc, mul_comm, div-lt_iff_lt-mul, add-mul, mul-lt-mul_of_pos_right, one-mul, pow-suc, div-add-mod', zero-mul, mul-one, div-one, mul_left_comm, arith, lit<, lit≤, le→leb, lt→ltb, pow_pos, pow-add, ltb-false, ltb-true, le-leb}
use native.Mathlib.Nat.{zero-mod, zero-div}
use borrow.Author.Tests.{lt-leb, eqb-false}
use lib.Dec.{eqb-suc-zero}
use lib.Ieee.{Float, nan, inf, fin, binary64, up, down, round, lt, neg, div, of_int, in_float, to_unsigned, fits}
use lib.Ieee.Back.{round_whole}
use lib.Ieee.Exact.{HasValue, round_exact}
use lib.Ieee.Fits.{down_pos}
use lib.Ieee.Scale.{round_same}
use Rattle.number.specs.Arithmetic.{nought, abs_of}
use Rattle.number.specs.Rounding.{floor_of, ceil_of, round_of}
use Rattle.std.specs.Float.{floor, ceil, round_with}
use Rattle.number.proofs.Law.Compare.{no, no', below-zero, value-lt, lt-value, fits-says}
use Rattle.number.proofs.Law.Sign.{sign-round}
use Rattle.number.proofs.Law.Size.{floor-size, ceil-size, rises, round-size}

-- 2 ^ 52, from which on every number is whole, and 2
abbrev all_whole : Float
all_whole = fin false 1 (pos 52)

abbrev two : Float
two = fin false 1 (pos 1)

-- ---- a magnitude below 2 ^ 52: its whole part q, the rest r, and the middle (2 q + 1) / 2

-- a float that is the whole number a, divided by two
halved : (t : Float) (a : ℕ) → HasValue t false a 1 → a < 2 ^ 53 → HasValue (div binary64 t two) false a 2
unfolding div
halved nan a v h = absurd v
halved (inf s) a v h = absurd v
halved (fin true n d) a v h = no' v.0
halved (fin false n d) a v h =
    subst (λ (y : Float). HasValue y false a 2)
    (sym (round_same binary64 false (n * up d * 1) (1 * 2 * down d) a 2 (omega (arith, down_pos d)) (lit< tt)
    (ap (λ (z : ℕ). z * 2) v.1 ∙ mul_assoc a (down d) 2 ∙ ap (λ (z : ℕ). a * z) (mul_comm (down d) 2))))
    (round_exact binary64 false a 2 a 1073 (lit< tt) h (lt_of_lt_of_le (mul-lt-mul_of_pos_right h (pow_pos 1073)) (lit≤ tt)) (sym (mul_assoc a (2 ^ 1073) 2)))

module _ (m : ℕ) (e : ℤ) (small : lt (fin false m e) all_whole ≡ true) where
  q : ℕ
  q = m * up e / down e

  r : ℕ
  r = m * up e % down e

  parts : q * down e + r ≡ m * up e
  unfolding q r
  parts = div-add-mod' (m * up e) (down e)

  bound : m * up e < 2 ^ 52 * down e
  unfolding lt
  bound = omega (arith, ltb-true (m * up e * 1) (1 * 2 ^ 52 * down e) small, mul-one (m * up e))

  q-small : q < 2 ^ 52
  unfolding q
  q-small = (div-lt_iff_lt-mul (down_pos e)).1 bound

  truncated : to_unsigned 64 (fin false m e) ≡ q
  unfolding to_unsigned q
  truncated = omega (arith, q-small)

  in-range : T (lt (fin true 1 (pos 0)) (fin false m e)) × T (lt (fin false m e) (fin false 1 (pos 64)))
  unfolding lt
  in-range = (
    lt→ltb 0 (1 * down e + m * up e * 1) (omega (arith, down_pos e)),
    lt→ltb (m * up e * 1) (2 ^ 64 * down e) (omega (arith, bound)),
  )

  q-value : HasValue (of_int binary64 (pos q)) false q 1
  unfolding of_int
  q-value = round_whole binary64 false q (omega (arith, q-small))

  middle : Float
  middle = div binary64 (of_int binary64 (pos (2 * q + 1))) two

  middle-value : HasValue middle false (2 * q + 1) 2
  unfolding of_int middle
  middle-value =
      halved (round binary64 false (2 * q + 1) 1) (2 * q + 1) (round_whole binary64 false (2 * q + 1) (omega (arith, q-small))) (omega (arith, q-small))

  twice : (2 * q + 1) * down e ≡ 2 * (q * down e) + down e
  twice = add-mul (2 * q) 1 (down e) ∙ ap (λ (z : ℕ). z + 1 * down e) (mul_assoc 2 q (down e)) ∙ ap (λ (z : ℕ). 2 * (q * down e) + z) (one-mul (down e))

  from-half : not (lt (fin false m e) middle) ≡ leb (down e) (2 * r)
  from-half = ap not (lt-value middle (2 * q + 1) 2 m e (lit< tt) middle-value) ∙ go (ltb (m * up e * 2) ((2 * q + 1) * down e)) refl
    where
      go : (b : Bool) → ltb (m * up e * 2) ((2 * q + 1) * down e) ≡ b → not b ≡ leb (down e) (2 * r)
      go true x = sym (lt-leb (down e) (2 * r) (omega (arith, parts, twice, ltb-true (m * up e * 2) ((2 * q + 1) * down e) x)))
      go false x = sym (le-leb (down e) (2 * r) (omega (arith, parts, twice, ltb-false (m * up e * 2) ((2 * q + 1) * down e) x)))

  to-half : not (lt middle (fin false m e)) ≡ leb (2 * r) (down e)
  to-half = ap not (value-lt middle (2 * q + 1) 2 m e (lit< tt) middle-value) ∙ go (ltb ((2 * q + 1) * down e) (m * up e * 2)) refl
    where
      go : (b : Bool) → ltb ((2 * q + 1) * down e) (m * up e * 2) ≡ b → not b ≡ leb (2 * r) (down e)
      go true x = sym (lt-leb (2 * r) (down e) (omega (arith, parts, twice, ltb-true ((2 * q + 1) * down e) (m * up e * 2) x)))
      go false x = sym (le-leb (2 * r) (down e) (omega (arith, parts, twice, ltb-false ((2 * q + 1) * down e) (m * up e * 2) x)))

-- ---- what `around` returns

-- what is below 2 ^ 52 in size is finite
finite-case : (P : Float → Type 0) → ((s : Bool) (m : ℕ) (e : ℤ) → lt (fin false m e) all_whole ≡ true → P (fin s m e)) →
    (x : Float) → lt (abs_of x) all_whole ≡ true → P x
unfolding lt
finite-case P f nan h = no h
finite-case P f (inf s) h = no h
finite-case P f (fin s m e) h = f s m e h

pub truncates : (x : Float) → lt (abs_of x) all_whole ≡ true → T (lt (fin true 1 (pos 0)) (abs_of x)) × T (lt (abs_of x) (fin false 1 (pos 64)))
truncates =
    finite-case (λ x. T (lt (fin true 1 (pos 0)) (abs_of x)) × T (lt (abs_of x) (fin false 1 (pos 64)))) (λ s m e h. in-range m e h)

pub part_small : (x : Float) → lt (abs_of x) all_whole ≡ true → to_unsigned 64 (abs_of x) < 2 ^ 52
part_small = finite-case (λ x. to_unsigned 64 (abs_of x) < 2 ^ 52) (λ s m e h. rw (truncated m e h) (q-small m e h))

pub part-below : (x y : Float) (n : ℕ) → y ≡ abs_of x → lt y all_whole ≡ true → n ≡ to_unsigned 64 y → n < 2 ^ 52
part-below x y n e h g = rw (g, e) (part_small x (rw e at h))

pub in-format : (n : ℕ) → n ≤ 2 ^ 53 → T (in_float binary64 (pos n))
unfolding in_float
in-format n h = le→leb n (2 ^ 53) h

-- a number with a fraction is not zero, so that its sign can be seen by a comparison
sign-seen : (s : Bool) (m : ℕ) (e : ℤ) → eqb (m * up e % down e) 0 ≡ false → lt (fin s m e) nought ≡ s
sign-seen s zero e h = absurd (eqb-false (0 * up e % down e) 0 h (ap (λ (n : ℕ). n % down e) (zero-mul (up e)) ∙ zero-mod (down e)))
sign-seen s (suc m) e h = below-zero s (suc m) e ∙ rw (eqb-suc-zero m) (kept s)
  where
    kept : (s : Bool) → (s && true) ≡ s
    kept true = refl
    kept false = refl

-- from 2 ^ 52 on there is no fraction
no_fraction : (s : Bool) (m : ℕ) (e : ℤ) → fits binary64 (fin s m e) ≡ true → lt (fin false m e) all_whole ≡ false → m * up e % down e ≡ 0
unfolding lt
no_fraction s m (pos k) f h = omega arith
no_fraction s zero (negsuc k) f h = absurd (omega (arith, ltb-false (0 * 1 * 1) (1 * 2 ^ 52 * 2 ^ suc k) h, pow_pos (suc k)))
no_fraction s (suc m) (negsuc k) f h =
    absurd (omega (arith, ltb-false (suc m * 1 * 1) (1 * 2 ^ 52 * 2 ^ suc k) h, pow-suc 2 k, pow_pos k, (fits-says s m (negsuc k) (subst T (sym f) tt)).digits))

-- ---- what `floor` and `round` pick

-- a whole number is the float of its size
odd-size : (m t : ℕ) → m % 2 ≡ 1 → m ≡ 2 * t → ⊥
odd-size m t o h = omega arith

-- its size as a whole number is held exactly
pub size_exact : (s : Bool) (m : ℕ) (e : ℤ) → T (fits binary64 (fin s m e)) → m * up e % down e ≡ 0 → HasValue (round binary64 s (m * up e / down e) 1) s (m * up e / down e) 1
size_exact s zero e f z = rw (zero-mul (up e), zero-div (down e)) (round_whole binary64 s 0 (lit≤ tt))
size_exact s (suc m) (negsuc k) f z =
    let t = suc m * 1 / 2 ^ suc k in
    absurd (odd-size (suc m) (t * 2 ^ k) (fits-says s m (negsuc k) f).odd
    (sym (mul-one (suc m)) ∙ sym (div-add-mod' (suc m * 1) (2 ^ suc k)) ∙ ap (λ (n : ℕ). t * 2 ^ suc k + n) z ∙ add-zero (t * 2 ^ suc k)
    ∙ ap (λ (n : ℕ). t * n) (pow-suc 2 k ∙ mul_comm (2 ^ k) 2) ∙ mul_left_comm t 2 (2 ^ k)))
size_exact s (suc m) (pos k) f z =
    let b : suc m * 2 ^ k < 2 ^ 1024 = subst (λ (n : ℕ). suc m * 2 ^ k < n) (mul-one (2 ^ 1024)) (fits-says s m (pos k) f).limit in
    let grown : suc m * 2 ^ k * 2 ^ 1074 ≡ suc m * 2 ^ (k + 1074) = mul_assoc (suc m) (2 ^ k) (2 ^ 1074) ∙ ap (λ (n : ℕ). suc m * n) (sym (pow-add 2 k 1074)) in
    rw (div-one (suc m * 2 ^ k))
    (round_exact binary64 s (suc m * 2 ^ k) 1 (suc m) (k + 1074) (lit< tt) (fits-says s m (pos k) f).digits
    (subst (λ (n : ℕ). n < 2 ^ 2098) grown (lt_of_lt_of_le (mul-lt-mul_of_pos_right b (pow_pos 1074)) (lit≤ tt)))
    (grown ∙ sym (mul-one (suc m * 2 ^ (k + 1074)))))

-- ---- the whole numbers below, above and nearest

neg-twice : (x : Float) → neg (neg x) ≡ x
unfolding neg
neg-twice nan = refl
neg-twice (inf true) = refl
neg-twice (inf false) = refl
neg-twice (fin true m e) = refl
neg-twice (fin false m e) = refl

neg-round : (s : Bool) (n : ℕ) → neg (round binary64 (not s) n 1) ≡ round binary64 s n 1
neg-round true n = sign-round true n 1
neg-round false n = ap neg (sym (sign-round true n 1)) ∙ neg-twice (round binary64 false n 1)

module _ (s : Bool) (m : ℕ) (e : ℤ) where
  a : ℕ
  a = m * up e

  d : ℕ
  d = down e

  k : ℕ
  k = m * up e / down e

  t : ℕ
  t = m * up e % down e

  t-below : t < d
  unfolding t d
  t-below = mod-lt (m * up e) (down_pos e)

  whole-parts : k * d + t ≡ a
  unfolding a d k t
  whole-parts = div-add-mod' (m * up e) (down e)

  floor-is : floor_of (fin s m e) ≡ round binary64 s (cond (eqb t 0) k (cond s (suc k) k)) 1
  unfolding floor_of a d k t
  floor-is = ap (λ (n : ℕ). round binary64 s n 1) (floor-size s a d k t t-below whole-parts)

  ceil-is : ceil_of (fin s m e) ≡ round binary64 s (cond (eqb t 0) k (cond (not s) (suc k) k)) 1
  unfolding ceil_of floor_of neg a d k t
  ceil-is = ap neg (ap (λ (n : ℕ). round binary64 (not s) n 1) (floor-size (not s) a d k t t-below whole-parts)) ∙ neg-round s _

  round-picks : round_of (fin s m e) ≡ round binary64 s (cond (eqb t 0) k (cond (rises s d t) (suc k) k)) 1
  unfolding round_of a d k t
  round-picks = ap (λ (n : ℕ). round binary64 s n 1) (round-size s a d k t t-below whole-parts)

  -- the one above or the one below, by a test that need not be right where both are the number itself
  nearest : (b : Bool) → (eqb t 0 ≡ false → b ≡ cond s (leb (2 * t) d) (leb d (2 * t))) → cond b (ceil_of (fin s m e)) (floor_of (fin s m e)) ≡ round_of (fin s m e)
  nearest b h = rw (ceil-is, floor-is, round-picks) (go (eqb t 0) refl)
    where
      moved : (b : Bool) (n i : ℕ) → cond b (round binary64 s n 1) (round binary64 s i 1) ≡ round binary64 s (cond b n i) 1
      moved true n i = refl
      moved false n i = refl

      same : (b : Bool) (n : ℕ) → cond b n n ≡ n
      same true n = refl
      same false n = refl

      turned : (c : Bool) → ltb d (2 * t) ≡ c → cond (leb (2 * t) d) k (suc k) ≡ cond (ltb d (2 * t)) (suc k) k
      turned true i = rw (i, lt-leb (2 * t) d (ltb-true d (2 * t) i))
      turned false i = rw (i, le-leb (2 * t) d (ltb-false d (2 * t) i))

      by_sign : (s : Bool) → cond (cond s (leb (2 * t) d) (leb d (2 * t))) (cond (not s) (suc k) k) (cond s (suc k) k) ≡ cond (rises s d t) (suc k) k
      by_sign true = turned (ltb d (2 * t)) refl
      by_sign false = refl

      go : (z : Bool) → eqb t 0 ≡ z →
          cond b (round binary64 s (cond (eqb t 0) k (cond (not s) (suc k) k)) 1) (round binary64 s (cond (eqb t 0) k (cond s (suc k) k)) 1)
          ≡ round binary64 s (cond (eqb t 0) k (cond (rises s d t) (suc k) k)) 1
      go true z = moved b _ _ ∙ rw z (ap (λ (n : ℕ). round binary64 s n 1) (same b k))
      go false z = moved b _ _ ∙ rw z (ap (λ (n : ℕ). round binary64 s n 1) (rw (h z) (by_sign s)))

pub floor-library : (x : Float) → floor binary64 x ≡ floor_of x
unfolding round_with floor_of t k
floor-library nan = refl
floor-library (inf s) = refl
floor-library (fin false m e) = refl
floor-library (fin true m e) =
    ap (λ (n : ℕ). round binary64 true n 1)
    (ceil-size (m * up e) (down e) (m * up e / down e) (m * up e % down e) (mod-lt (m * up e) (down_pos e)) (div-add-mod' (m * up e) (down e)))
    ∙ sym (floor-is true m e)

pub ceil-library : (x : Float) → ceil binary64 x ≡ ceil_of x
unfolding round_with ceil_of floor_of neg t k
ceil-library nan = refl
ceil-library (inf true) = refl
ceil-library (inf false) = refl
ceil-library (fin false m e) =
    ap (λ (n : ℕ). round binary64 false n 1)
    (ceil-size (m * up e) (down e) (m * up e / down e) (m * up e % down e) (mod-lt (m * up e) (down_pos e)) (div-add-mod' (m * up e) (down e)))
    ∙ sym (ceil-is false m e)
ceil-library (fin true m e) = sym (neg-round true (m * up e / down e))

-- the number halfway between the whole numbers around a magnitude
abbrev pub halfway : ℕ → Float
halfway n = div binary64 (of_int binary64 (pos (2 * n + 1))) two

pub rises-small : (x : Float) → lt (abs_of x) all_whole ≡ true →
    cond (cond (lt x nought) (not (lt (halfway (to_unsigned 64 (abs_of x))) (abs_of x))) (not (lt (abs_of x) (halfway (to_unsigned 64 (abs_of x)))))) (ceil_of x) (floor_of x) ≡ round_of x
unfolding q r middle t d
rises-small =
    finite-case
    (λ x. cond (cond (lt x nought) (not (lt (halfway (to_unsigned 64 (abs_of x))) (abs_of x))) (not (lt (abs_of x) (halfway (to_unsigned 64 (abs_of x)))))) (ceil_of x) (floor_of x) ≡ round_of x)
    (λ s m e h. nearest s m e _ (λ z.
    rw (truncated m e h, sign-seen s m e z) (by_sign s m e h)))
  where
    by_sign : (s : Bool) (m : ℕ) (e : ℤ) → lt (fin false m e) all_whole ≡ true →
        cond s (not (lt (halfway (m * up e / down e)) (fin false m e))) (not (lt (fin false m e) (halfway (m * up e / down e))))
        ≡ cond s (leb (2 * (m * up e % down e)) (down e)) (leb (down e) (2 * (m * up e % down e)))
    by_sign true m e h = to-half m e h
    by_sign false m e h = from-half m e h

pub rises-large : (x : Float) → fits binary64 x ≡ true → lt (abs_of x) all_whole ≡ false → floor_of x ≡ round_of x
unfolding floor_of round_of t
rises-large nan f h = refl
rises-large (inf s) f h = refl
rises-large (fin s m e) f h = nearest s m e false (λ z. absurd (eqb-false (m * up e % down e) 0 z (no_fraction s m e f h)))
