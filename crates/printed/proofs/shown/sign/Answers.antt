use Rattle.printed.specs.Shown.{sign_of}
use Rattle.printed.proofs.shown.sign.Goals as goal

pub returns : goal.returns
unfolding sign_of
returns c =
    c.word.ensures
