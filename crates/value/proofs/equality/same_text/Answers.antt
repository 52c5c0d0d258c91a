use mathlib.Core.Path.{◌∙◌}
use Rattle.lexer.proofs.Law.Texts.{pointwise-same}
use Rattle.value.proofs.equality.same_text.Goals as goal

pub returns : goal.returns
returns c = c.eq.ensures ∙ rw (← c.bytes.ensures, ← c.bytes-2.ensures) (pointwise-same c.bytes.result.now c.bytes-2.result.now)
