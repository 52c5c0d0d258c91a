use mathlib.Core.Path.{refl}
use Rattle.output.proofs.Law.Pages.{byte_fits, full_page}
use Rattle.output.proofs.page.Page.byte.Goals as goal

pub returns-then-self : goal.returns-then-self
returns-then-self c =
    record { page = byte_fits _ _ _ c.if-self.true; room = refl }

pub returns-else-self : goal.returns-else-self
returns-else-self c =
    full_page _ c.if-self.false
