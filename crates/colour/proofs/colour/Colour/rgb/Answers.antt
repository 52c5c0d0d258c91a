use lib.Ieee.{of_bits}
use Rattle.colour.specs.Colour.{rgb_of}
use Rattle.colour.proofs.colour.Colour.rgb.Goals as goal

pub returns : goal.returns
unfolding rgb_of of_bits
returns c =
    c.rgba.ensures
