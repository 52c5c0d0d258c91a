use Rattle.number.specs.Arithmetic.{clamp_of}
use Rattle.number.proofs.arithmetic.clamp.Goals as goal

pub returns : goal.returns
unfolding clamp_of
returns c =
    rw (c.min.ensures, c.max.ensures)
