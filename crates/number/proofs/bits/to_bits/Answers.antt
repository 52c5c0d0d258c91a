use Rattle.number.proofs.Law.Compare.{only_nan}
use lib.Ieee.{to_bits, binary64}
use Rattle.std.proofs.Common.{sym, ap, ◌∙◌}
use Rattle.number.proofs.bits.to_bits.Goals as goal

-- `to_bits` is the pattern of a number, and the one pattern of a NaN.
pub returns-then-is_nan : goal.returns-then-is_nan
unfolding to_bits
returns-then-is_nan c = sym (ap (to_bits binary64) (only_nan c.args.x (sym c.is_nan.ensures.value ∙ c.if-is_nan.true)))
