use mathlib.Core.Path.{sym}
use Rattle.output.proofs.Law.Pages.{nothing}
use Rattle.printed.proofs.Law.Words.{no-token}
use Rattle.printed.proofs.shown.Printer.leaf.Goals as goal

pub returns-in_default : goal.returns-in_default
returns-in_default c =
    rw (sym c.token_at.ensures, no-token _ _ c.in_default.not-Found) (nothing _)
