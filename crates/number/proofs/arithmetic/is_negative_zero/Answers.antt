use Rattle.number.proofs.Law.Arithmetic.{zero-sign, zero-unsigned}
use lib.Ieee.{of_bits}
use Rattle.std.proofs.Common.{◌∙◌}
use Rattle.number.proofs.arithmetic.is_negative_zero.Goals as goal

-- `is_negative_zero` tells -0 by the sign of 1 / x.
pub returns-then-x : goal.returns-then-x
unfolding of_bits
returns-then-x c = zero-sign c.args.x c.if-x.true

pub returns-else-x : goal.returns-else-x
unfolding of_bits
returns-else-x c = c.if-x.false ∙ zero-unsigned c.args.x c.if-x.false
