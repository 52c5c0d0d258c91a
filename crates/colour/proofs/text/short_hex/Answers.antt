use mathlib.Core.Path.{◌∙◌}
use Rattle.colour.proofs.Law.Texts.{doubled}
use Rattle.colour.proofs.text.short_hex.Goals as goal

pub returns : goal.returns
returns c =
    c.long_hex.ensures ∙ doubled _ _ _
