use mathlib.Core.Path.{◌∙◌}
use mathlib.Core.List.{map}
use Rattle.value.specs.Name.{functions, operation, function_at}
use Rattle.value.proofs.Law.Names.{looked_up}
use Rattle.value.proofs.name.function_at.Goals as goal

pub returns : goal.returns
unfolding function_at
returns c = c.copied.ensures ∙ looked_up (map operation functions) c.args.number c.get.result c.get.ensures.lookup
