use mathlib.Core.Path.{sym, ◌∙◌}
use Rattle.style.proofs.Law.Items.{single-is}
use Rattle.style.proofs.item.single.Goals as goal

pub returns : goal.returns
returns c =
    single-is c.args.line.now (sym c.count.ensures ∙ c.if-count-ne2.false) _ c.nth.ensures.is
