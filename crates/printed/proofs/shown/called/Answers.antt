use Rattle.printed.specs.Shown.{function_of}
use Rattle.output.proofs.Law.Pages.{then}
use Rattle.printed.proofs.shown.called.Goals as goal

pub returns : goal.returns
unfolding function_of
returns c =
    then _ _ c.word.ensures c.byte.ensures
