use Rattle.number.proofs.Law.Compare.{only_nan}
use lib.Ieee.Bits.{nan_bits_above, nan_bits_is}
use lib.Ieee.{of_bits, div, binary64}
use Rattle.std.proofs.Common.{Bool, not, T, sym, ◌∙◌, subst, le-ltb, lt-ltb}
use Rattle.number.proofs.bits.from_bits.Goals as goal

-- `from_bits` is the number of a pattern; what is above the infinities is a NaN.
pub float_from_bits-result : goal.float_from_bits-result
float_from_bits-result c =
    subst (λ (b : Bool). T (not b)) (sym (nan_bits_above binary64 c.args.bits ∙ le-ltb _ _ c.if-bits-gt9218868437227405312.false)) tt

pub returns-then-bits-gt9218868437227405312 : goal.returns-then-bits-gt9218868437227405312
unfolding of_bits div
returns-then-bits-gt9218868437227405312 c =
    sym (only_nan (of_bits binary64 c.args.bits) (sym (nan_bits_is binary64 c.args.bits) ∙ nan_bits_above binary64 c.args.bits ∙ lt-ltb _ _ c.if-bits-gt9218868437227405312.true))
