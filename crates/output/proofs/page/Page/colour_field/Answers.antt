use mathlib.Core.Path.{sym}
use Rattle.output.specs.Line.{colour_text}
use Rattle.output.proofs.page.Page.colour_field.Goals as goal

pub returns : goal.returns
unfolding colour_text
returns c =
    rw (
      sym c.bytes-red.ensures,
      sym c.hex_digit.ensures,
      sym c.hex_digit-2.ensures,
      sym c.hex_digit-3.ensures,
      sym c.hex_digit-4.ensures,
      sym c.hex_digit-5.ensures,
      sym c.hex_digit-6.ensures,
      sym c.hex_digit-7.ensures,
      sym c.hex_digit-8.ensures,
    ) c.text.ensures
