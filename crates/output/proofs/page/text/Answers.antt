use Rattle.std.proofs.Math.Nat.{add-sub_cancel_left}
use Rattle.output.proofs.Law.Pages.{full, as_fits}
use Rattle.output.proofs.page.text.Goals as goal

pub returns-then-page-at : goal.returns-then-page-at
returns-then-page-at c =
    full _ _ _ c.if-page-at.true

pub returns : goal.returns
returns c =
    rw (c.copy_from_slice.ensures.after, add-sub_cancel_left c.args.at c.min-count.result) (as_fits _ _ _ _ c.if-page-at.false c.min-count.ensures)
