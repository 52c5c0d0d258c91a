-- floor, ceil, round and fract, and what a remainder is: page 01, "Kinds and meaning". "`floor`, `ceil` and `round` as in ECMAScript,
-- zeros' signs included; a half rounds up."
use Rattle.std.specs.Prelude.{◌≡◌, ℕ, zero, suc, ◌*◌, ◌<◌, ◌≤◌, Bool, true, false, T, ℤ, pos, ◌+ℤ◌, ◌-ℤ◌, ◌*ℤ◌, neg_ℤ, ◌≤ℤ◌, ◌<ℤ◌, unsigned_abs, Float}
use Rattle.std.proofs.Math.IntN.{suc_ℤ, pred_ℤ}
use Rattle.std.specs.Int.Signed.{shr_z}
use Rattle.std.specs.Float.{nan, inf, fin, binary64}
use Rattle.std.specs.Float.Ieee.{up, down, unlike, round, neg, sub}
use Rattle.std.specs.Float.Ieee.Positive.{num, den}
use Rattle.std.specs.Float.Ieee.Scale.{finite}

-- n, or -n
abbrev pub signed : Bool → ℕ → ℤ
signed true n = neg_ℤ (pos n)
signed false n = pos n

-- the exact value of a finite number is numerator / den
abbrev pub numerator : Float → ℤ
numerator nan = pos 0
numerator (inf s) = pos 0
numerator (fin s m e) = signed s (m * up e)

abbrev pub negative : Float → Bool
negative nan = false
negative (inf s) = s
negative (fin s m e) = s

-- the number z; a zero has the sign s
unfoldable pub whole : Bool → ℤ → Float
whole s z = round binary64 s (unsigned_abs z) 1

-- The greatest whole number not above x (`shr_z` is division rounded down), with x's sign.
unfoldable pub floor_of : Float → Float
unfolding whole
floor_of nan = nan
floor_of (inf s) = inf s
floor_of (fin s m e) = whole s (shr_z (signed s (m * up e)) (down e))

-- as ECMAScript has it, ceil(x) is -floor(-x)
unfoldable pub ceil_of : Float → Float
unfolding floor_of neg
ceil_of x = neg (floor_of (neg x))

-- The greatest whole number not above x + 1/2, with x's sign.
unfoldable pub round_of : Float → Float
unfolding whole
round_of nan = nan
round_of (inf s) = inf s
round_of (fin s m e) = whole s (shr_z (signed s (2 * (m * up e)) +ℤ pos (down e)) (2 * down e))

-- "`fract` is x minus its floor."
unfoldable pub fract_of : Float → Float
unfolding floor_of
fract_of x = sub binary64 x (floor_of x)

-- ---- what a reader expects of them (proved in proofs/Plain.antt: of every finite binary64, and of the remainder of any two)

-- r is the whole number n exactly, and has x's sign, be it a zero
pub record IsWhole (x r : Float) (n : ℤ) : Type 0 where
  pub is_finite : T (finite r)
  pub exact : numerator r ≡ n *ℤ pos (den r)
  pub sign : negative r ≡ negative x

-- n is the greatest whole number not above z / d
pub record Greatest (z : ℤ) (d : ℕ) (n : ℤ) : Type 0 where
  pub not-above : (n *ℤ pos d) ≤ℤ z
  pub next-above : z <ℤ (suc_ℤ n *ℤ pos d)

-- n is the least whole number not below z / d
pub record Least (z : ℤ) (d : ℕ) (n : ℤ) : Type 0 where
  pub not-below : z ≤ℤ (n *ℤ pos d)
  pub last-below : (pred_ℤ n *ℤ pos d) <ℤ z

abbrev pub IsFloor : Float → Float → Type 0
IsFloor x r = (n : ℤ) × IsWhole x r n × Greatest (numerator x) (den x) n

abbrev pub IsCeil : Float → Float → Type 0
IsCeil x r = (n : ℤ) × IsWhole x r n × Least (numerator x) (den x) n

-- the greatest not above x + 1/2, which is (2 numerator + den) / (2 den)
abbrev pub IsRound : Float → Float → Type 0
IsRound x r = (n : ℤ) × IsWhole x r n × Greatest (pos 2 *ℤ numerator x +ℤ pos (den x)) (2 * den x) n

-- of finite numbers: r is x - n y exactly, where n is x / y cut off toward zero, and has x's sign, be it a zero. The size of n is q: so
-- many times y's size goes into x's, and not once more
pub record LeftOver (x y r : Float) : Type 0 where
  pub q : ℕ
  pub not-over : q * num y * den x ≤ num x * den y
  pub next-over : num x * den y < suc q * num y * den x
  pub is_finite : T (finite r)
  -- over the common denominator of x and y
  pub exact : numerator r *ℤ pos (den x * den y) ≡
      (numerator x *ℤ pos (den y) -ℤ signed (unlike (negative x) (negative y)) q *ℤ numerator y *ℤ pos (den x)) *ℤ pos (den r)
  pub sign : negative r ≡ negative x

-- "`%` is ECMAScript's remainder."
abbrev pub IsRemainder : Float → Float → Float → Type 0
IsRemainder nan y r = r ≡ nan
IsRemainder (inf s) y r = r ≡ nan
IsRemainder (fin s m e) nan r = r ≡ nan
IsRemainder (fin s m e) (inf t) r = r ≡ fin s m e
IsRemainder (fin s m e) (fin t zero d) r = r ≡ nan
IsRemainder (fin s m e) (fin t (suc n) d) r = LeftOver (fin s m e) (fin t (suc n) d) r
