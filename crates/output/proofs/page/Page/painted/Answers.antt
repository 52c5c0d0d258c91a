use Rattle.output.specs.Line.{painted_line}
use Rattle.output.proofs.Law.Pages.{then}
use Rattle.output.proofs.page.Page.painted.Goals as goal

pub returns : goal.returns
unfolding painted_line
returns c =
    then _ _ c.number.ensures (then _ _ c.truth_field.ensures (then _ _ c.colouring_field.ensures c.byte.ensures))
