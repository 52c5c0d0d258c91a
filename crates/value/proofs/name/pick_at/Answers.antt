use mathlib.Core.Path.{◌∙◌}
use Rattle.value.specs.Name.{pick_at}
use Rattle.value.proofs.Law.Names.{looked_up}
use Rattle.value.proofs.name.pick_at.Goals as goal

pub returns : goal.returns
unfolding pick_at
returns c = c.copied.ensures ∙ looked_up _ c.args.index c.get.result c.get.ensures.lookup
