use mathlib.Core.Path.{◌∙◌, ap}
use lib.Ieee.{of_bits}
use Rattle.value.specs.Meaning.{alpha_or, color_of}
use Rattle.value.proofs.Law.Colours.{named_or, colourless}
use Rattle.value.proofs.make.color.Goals as goal

pub returns-in-String : goal.returns-in-String
unfolding color_of alpha_or of_bits
returns-in-String c =
    rw (c.in-String.is, ← c.bytes.ensures, ← c.from_text.ensures, ← named_or c.from_text.result)
    (c.alpha_or.ensures ∙ ap (λ x. alpha_or x c.args.b) c.unwrap_or.ensures)

pub returns-in_default : goal.returns-in_default
unfolding of_bits
returns-in_default c = colourless _ c.args.a c.args.b c.in_default.not-String
