-- Operations on numbers: page 01, "Kinds and meaning". "Numbers are binary64 and each operation rounds once."
use Rattle.std.specs.Prelude.{Bool, Float}
use Rattle.std.specs.Float.{float_is_finite, binary64}
use Rattle.std.specs.Float.Ieee.{neg, add, sub, mul, div, rem, lt, le, is_nan}
use Rattle.number.specs.Arithmetic.{abs_of, sign_of, min_of, max_of, clamp_of, mix_of}
use Rattle.number.specs.Rounding.{floor_of, ceil_of, round_of, fract_of}
use Rattle.kind.specs.declared.operation.Unary.{Unary}
use Rattle.kind.specs.declared.operation.Unary.TheVariants.{Plus, Minus, Abs, Sign, Floor, Ceil, Round, Fract}
use Rattle.kind.specs.declared.operation.Binary.{Binary}
use Rattle.kind.specs.declared.operation.Binary.TheVariants.{Add, Subtract, Multiply, Divide, Remainder, Min, Max}
use Rattle.kind.specs.declared.operation.Ternary.{Ternary}
use Rattle.kind.specs.declared.operation.Ternary.TheVariants.{Clamp, Mix}
use Rattle.kind.specs.declared.operation.Order.{Order}
use Rattle.kind.specs.declared.operation.Order.TheVariants.{Less, LessEqual, Greater, GreaterEqual}
use Rattle.kind.specs.declared.operation.Test.{Test}
use Rattle.kind.specs.declared.operation.Test.TheVariants.{IsNan, IsFinite}

abbrev pub unary_of : Unary → Float → Float
unary_of Plus x = x
unary_of Minus x = neg x
unary_of Abs x = abs_of x
unary_of Sign x = sign_of x
unary_of Floor x = floor_of x
unary_of Ceil x = ceil_of x
unary_of Round x = round_of x
unary_of Fract x = fract_of x

-- "`%` is ECMAScript's remainder"
abbrev pub binary_of : Binary → Float → Float → Float
binary_of Add x y = add binary64 x y
binary_of Subtract x y = sub binary64 x y
binary_of Multiply x y = mul binary64 x y
binary_of Divide x y = div binary64 x y
binary_of Remainder x y = rem binary64 x y
binary_of Min x y = min_of x y
binary_of Max x y = max_of x y

abbrev pub ternary_of : Ternary → Float → Float → Float → Float
ternary_of Clamp x lo hi = clamp_of x lo hi
ternary_of Mix x y a = mix_of x y a

-- no order holds of NaN
abbrev pub order_of : Order → Float → Float → Bool
order_of Less x y = lt x y
order_of LessEqual x y = le x y
order_of Greater x y = lt y x
order_of GreaterEqual x y = le y x

abbrev pub test_of : Test → Float → Bool
test_of IsNan x = is_nan x
test_of IsFinite x = float_is_finite x
