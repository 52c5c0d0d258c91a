use mathlib.Core.Path.{◌∙◌}
use borrow.Author.Tests.{ne_eqb}
use Rattle.words.specs.Table.{folded}
use Rattle.words.proofs.Law.Words.{alike, other}
use Rattle.words.proofs.table.is_word.Goals as goal

pub returns-then-part-word : goal.returns-then-part-word
returns-then-part-word c = c.agree.ensures ∙ alike (folded c.args.folding) _ _ c.if-part-word.true

pub returns-else-part-word : goal.returns-else-part-word
returns-else-part-word c = rw (ne_eqb _ _ c.if-part-word.false) (other (folded c.args.folding) _ _ c.if-part-word.false)
