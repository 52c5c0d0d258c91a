use Rattle.number.proofs.Law.Colour.{component-below, component-above, component-nan, component-within}
use lib.Ieee.{of_bits}
use Rattle.std.proofs.Common.{sym, ◌∙◌}
use Rattle.number.proofs.colour.component.Goals as goal

-- `component` is the definition, by a law for each of its returns.
pub returns-then-x : goal.returns-then-x
unfolding of_bits
returns-then-x c =
    component-below c.args.x c.if-x.true

pub returns-then-x-2 : goal.returns-then-x-2
unfolding of_bits
returns-then-x-2 c =
    component-above c.args.x c.if-x.false c.if-x-2.true

pub returns-then-is_nan : goal.returns-then-is_nan
unfolding of_bits
returns-then-is_nan c =
    component-nan c.args.x (sym c.is_nan.ensures.value ∙ c.if-is_nan.true)

pub returns-else-is_nan : goal.returns-else-is_nan
unfolding of_bits
returns-else-is_nan c =
    component-within c.args.x c.if-x.false c.if-x-2.false (sym c.is_nan.ensures.value ∙ c.if-is_nan.false)
