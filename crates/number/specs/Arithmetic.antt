-- Functions on numbers: page 01, "Kinds and meaning". Numbers are binary64, each operation rounds once, and there is one NaN, `nan`: "Every
-- NaN is one NaN, stored as 0x7FF8000000000000" is `one-nan` and `nan-stored` in proofs/Plain.antt.
use Rattle.std.specs.Prelude.{zero, suc, Bool, false, cond, not, ◌&&◌, ◌||◌, pos, ◌==◌, is_nan, Float}
use Rattle.std.specs.Float.{nan, inf, fin, binary64}
use Rattle.std.specs.Float.Ieee.{add, sub, mul, lt, eq}

-- 0 and 1
abbrev pub nought : Float
nought = fin false 0 (pos 0)

abbrev pub unit : Float
unit = fin false 1 (pos 0)

-- "`abs` clears the sign"
abbrev pub abs_of : Float → Float
abs_of nan = nan
abs_of (inf s) = inf false
abs_of (fin s m e) = fin false m e

-- "`sign` of either zero is +0, of NaN is NaN"; of any other number it is 1 or -1
abbrev pub sign_of : Float → Float
sign_of nan = nan
sign_of (inf s) = fin s 1 (pos 0)
sign_of (fin s zero e) = nought
sign_of (fin s (suc m) e) = fin s 1 (pos 0)

abbrev pub negative_zero : Float → Bool
negative_zero nan = false
negative_zero (inf s) = false
negative_zero (fin s m e) = s && m == 0

-- the order of ECMAScript's min and max: that of the numbers, and -0 is below +0
unfoldable pub less : Float → Float → Bool
less x y = lt x y || (eq x y && (negative_zero x && not (negative_zero y)))

-- "`min` and `max` as in ECMAScript": NaN where one is, else the less and the greater
unfoldable pub min_of : Float → Float → Float
unfolding less
min_of x y = cond (is_nan x || is_nan y) nan (cond (less y x) y x)

unfoldable pub max_of : Float → Float → Float
unfolding less
max_of x y = cond (is_nan x || is_nan y) nan (cond (less x y) y x)

-- "`clamp` is min(max(x, lo), hi)"
unfoldable pub clamp_of : Float → Float → Float → Float
clamp_of x lo hi = min_of (max_of x lo) hi

-- "`mix` is x(1 - a) + ya"
unfoldable pub mix_of : Float → Float → Float → Float
mix_of x y a = add binary64 (mul binary64 x (sub binary64 unit a)) (mul binary64 y a)
