use Rattle.printed.specs.Shown.{index_of}
use Rattle.output.proofs.Law.Pages.{then}
use Rattle.printed.proofs.shown.behind.Goals as goal

pub returns : goal.returns
unfolding index_of
returns c =
    then _ _ c.byte.ensures (then _ _ c.word.ensures c.byte-2.ensures)
