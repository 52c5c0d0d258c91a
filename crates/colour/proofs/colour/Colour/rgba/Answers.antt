use mathlib.Core.Path.{refl}
use lib.Ieee.{of_bits, of_int, round}
use Rattle.colour.specs.Colour.{rgba_of}
use Rattle.colour.proofs.colour.Colour.rgba.Goals as goal

-- `rgba` is the definition, with 255 worked out.
pub returns : goal.returns
unfolding rgba_of of_bits of_int round
returns c =
    refl
