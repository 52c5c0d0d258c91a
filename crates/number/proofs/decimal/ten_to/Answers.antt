use Rattle.std.proofs.Common.{refl, add-one}
use lib.Ieee.{of_bits}
use Rattle.number.specs.Decimal.{ten_to}
use Rattle.number.proofs.decimal.ten_to.Goals as goal

pub loop-init : goal.loop-init
unfolding ten_to of_bits
loop-init c = refl

pub loop-preserved : goal.loop-preserved
unfolding ten_to of_bits
loop-preserved c = rw (add-one, c.loop.invariant)
