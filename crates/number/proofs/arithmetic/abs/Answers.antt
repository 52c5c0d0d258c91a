use Rattle.std.proofs.Common.{◌∙◌}
use Rattle.number.proofs.Law.Arithmetic.{abs-is}
use Rattle.number.proofs.arithmetic.abs.Goals as goal

pub returns : goal.returns
returns c = c.abs.ensures.value ∙ abs-is c.args.x
