use Rattle.output.proofs.Law.Pages.{then}
use Rattle.printed.proofs.shown.bare.Goals as goal

pub returns : goal.returns
returns c =
    then _ _ c.called.ensures c.byte.ensures
