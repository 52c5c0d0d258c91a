use mathlib.Core.Path.{sym}
use Rattle.output.specs.Line.{refused_feature}
use Rattle.output.proofs.Law.Pages.{then}
use Rattle.output.proofs.page.Page.refused_feature.Goals as goal

pub returns : goal.returns
unfolding refused_feature
returns c =
    rw (sym c.from.ensures) (then _ _ c.number.ensures (then _ _ c.text.ensures (then _ _ c.number_field.ensures (then _ _ c.number_field-2.ensures c.byte.ensures))))
