use mathlib.Core.Path.{sym, ◌∙◌}
use Rattle.style.proofs.Law.Items.{condition-is}
use Rattle.style.proofs.item.condition.Goals as goal

pub returns : goal.returns
returns c =
    condition-is c.args.before.now c.args.line.now (sym c.count.ensures ∙ c.if-count-ne3.false) _ _ c.nth.ensures.is c.nth-2.ensures.is
