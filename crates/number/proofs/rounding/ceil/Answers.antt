use Rattle.std.proofs.Common.{◌∙◌}
use Rattle.number.proofs.Law.Rounding.{ceil-library}
use Rattle.number.proofs.rounding.ceil.Goals as goal

pub returns : goal.returns
returns c = c.ceil.ensures ∙ ceil-library c.args.x
