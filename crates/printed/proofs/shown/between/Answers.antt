use Rattle.output.proofs.Law.Pages.{then}
use Rattle.printed.proofs.shown.between.Goals as goal

pub returns : goal.returns
returns c =
    then _ _ c.byte.ensures (then _ _ c.sign.ensures c.byte-2.ensures)
