use native.Mathlib.Omega.{arith}
use Rattle.std.proofs.lemmas.Grind.{common_steps}
use Rattle.text.specs.Word.{flags_of}
use Rattle.text.proofs.word.flags_of.Goals as goal

pub returns : goal.returns
unfolding flags_of
returns c =
    grind (arith, common_steps)
