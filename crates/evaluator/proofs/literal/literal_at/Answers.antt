use lib.Ieee.{of_bits}
use Rattle.evaluator.specs.Literal.{literal_at}
use Rattle.evaluator.proofs.literal.literal_at.Goals as goal

-- The numbers that no digits spell.
pub returns-in-6 : goal.returns-in-6
unfolding literal_at of_bits
returns-in-6 c = rw c.in-6.is

pub returns-in-7 : goal.returns-in-7
unfolding literal_at of_bits
returns-in-7 c = rw c.in-7.is
