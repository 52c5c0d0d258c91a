use Rattle.output.proofs.Law.Pages.{then}
use Rattle.output.proofs.page.Page.number_field.Goals as goal

pub returns : goal.returns
returns c =
    then _ _ c.byte.ensures c.number.ensures
