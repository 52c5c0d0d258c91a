use Rattle.painter.specs.Applied.{source, row_value}
use Rattle.painter.proofs.Law.Turns.{coloured-white}
use lib.Ieee.{of_bits, of_int, div, round}
use Rattle.colour.specs.Colour.{of_bytes, rgb_of, rgba_of}
use Rattle.painter.proofs.draw.Source.colouring.Goals as goal

pub returns-else-number_at-gt0-2 : goal.returns-else-number_at-gt0-2
unfolding of_bytes rgb_of rgba_of of_bits of_int div round
returns-else-number_at-gt0-2 c =
    let a = c.args in
    let s = c.self.inside in
    rw (← c.self.view_is) (coloured-white (row_value (source s.head.now s.feature.now s.room.now s.plan.now) a.values.now) s.plan.now _ _ c.number_at.ensures c.if-number_at-gt0.false c.number_at-else-number_at-gt0.ensures c.if-number_at-gt0-2.false)
