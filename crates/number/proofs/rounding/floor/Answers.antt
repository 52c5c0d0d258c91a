use Rattle.std.proofs.Common.{◌∙◌}
use Rattle.number.proofs.Law.Rounding.{floor-library}
use Rattle.number.proofs.rounding.floor.Goals as goal

pub returns : goal.returns
returns c = c.floor.ensures ∙ floor-library c.args.x
