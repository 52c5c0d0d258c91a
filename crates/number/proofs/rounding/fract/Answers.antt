use Rattle.number.specs.Rounding.{fract_of}
use Rattle.number.proofs.rounding.fract.Goals as goal

pub returns : goal.returns
unfolding fract_of
returns c =
    rw c.floor.ensures
