use Rattle.colour.specs.Colour.{clamped_of, bytes_of}
use Rattle.colour.proofs.colour.Colour.bytes.Goals as goal

pub returns : goal.returns
unfolding clamped_of bytes_of
returns c =
    rw (
      c.byte-4.ensures,
      c.byte-3.ensures,
      c.byte-2.ensures,
      c.byte.ensures,
      c.clamped-shown.ensures,
    )
