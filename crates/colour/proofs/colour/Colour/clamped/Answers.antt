use Rattle.colour.specs.Colour.{clamped_of}
use Rattle.colour.proofs.colour.Colour.clamped.Goals as goal

pub returns : goal.returns
unfolding clamped_of
returns c =
    rw (
      c.component-4.ensures,
      c.component-3.ensures,
      c.component-2.ensures,
      c.component.ensures,
    )
