use Rattle.colour.specs.Colour.{of_bytes}
use Rattle.colour.proofs.colour.Colour.of_bytes.Goals as goal

pub returns : goal.returns
unfolding of_bytes
returns c =
    rw (c.rgb.ensures, c.from.ensures, c.from-2.ensures, c.from-3.ensures)
