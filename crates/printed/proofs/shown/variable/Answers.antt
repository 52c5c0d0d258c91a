use Rattle.printed.specs.Shown.{index_of, digit_of}
use Rattle.output.proofs.Law.Pages.{then}
use Rattle.printed.proofs.shown.variable.Goals as goal

pub returns : goal.returns
unfolding index_of digit_of
returns c =
    then _ _ c.byte.ensures (then _ _ c.word.ensures c.word-2.ensures)
