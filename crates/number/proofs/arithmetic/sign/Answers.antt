use Rattle.std.proofs.Common.{◌∙◌}
use lib.Ieee.{of_bits}
use Rattle.number.proofs.Law.Arithmetic.{sign-level, sign-other}
use Rattle.number.proofs.arithmetic.sign.Goals as goal

pub returns-then-x : goal.returns-then-x
unfolding of_bits
returns-then-x c = sign-level c.args.x c.if-x.true

pub returns-else-x : goal.returns-else-x
unfolding of_bits
returns-else-x c = c.signum.ensures ∙ sign-other c.args.x c.if-x.false
