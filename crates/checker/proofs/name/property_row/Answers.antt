use mathlib.Core.Path.{◌∙◌}
use Rattle.checker.proofs.Law.Names.{property-or}
use Rattle.checker.proofs.name.property_row.Goals as goal

pub returns : goal.returns
returns c = c.unwrap_or.ensures ∙ property-or _ _ c.first_row.ensures
