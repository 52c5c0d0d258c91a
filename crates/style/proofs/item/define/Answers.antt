use mathlib.Core.Path.{sym, ◌∙◌}
use Rattle.style.proofs.Law.Items.{define-count, define-name, define-is}
use Rattle.style.proofs.item.define.Goals as goal

pub returns-then-count-ne3 : goal.returns-then-count-ne3
returns-then-count-ne3 c =
    define-count c.args.before.now c.args.line.now (λ e. c.if-count-ne3.true (c.count.ensures ∙ e)) _ c.eight.ensures

pub returns-then-not-is_new_define : goal.returns-then-not-is_new_define
returns-then-not-is_new_define c =
    define-name c.args.before.now c.args.line.now (sym c.count.ensures ∙ c.if-count-ne3.false) _ c.nth-name.ensures.is _ c.is_new_define.ensures c.if-not-is_new_define.true _ c.eight-then-not-is_new_define.ensures

pub returns : goal.returns
returns c =
    define-is c.args.before.now c.args.line.now (sym c.count.ensures ∙ c.if-count-ne3.false) _ c.nth-name.ensures.is _ c.is_new_define.ensures c.if-not-is_new_define.false _ c.nth-text.ensures.is
