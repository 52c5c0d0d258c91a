use mathlib.Core.Path.{sym}
use borrow.Author.Tests.{ltb-true, ltb-false}
use Rattle.output.proofs.Law.Pages.{nothing}
use Rattle.printed.proofs.Law.Words.{word-got, word-past}
use Rattle.printed.proofs.word.word.Goals as goal

pub returns-in-Some : goal.returns-in-Some
returns-in-Some c =
    rw (word-got _ _ _ _ (ltb-true _ _ (sym c.in-Some.ensures.lookup.0)) c.in-Some.ensures.lookup.1) c.text.ensures

pub returns-in_default : goal.returns-in_default
returns-in_default c =
    rw (word-past _ _ (ltb-false _ _ (sym c.in_default.ensures.lookup.0))) (nothing _)
