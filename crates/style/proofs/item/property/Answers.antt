use mathlib.Core.Path.{sym, ◌∙◌}
use Rattle.style.proofs.Law.Items.{property-count, property-name, property-type, property-flags}
use Rattle.style.proofs.item.property.Goals as goal

pub returns-then-count-ne4 : goal.returns-then-count-ne4
returns-then-count-ne4 c =
    property-count c.args.before.now c.args.line.now (λ e. c.if-count-ne4.true (c.count.ensures ∙ e)) _ c.eight.ensures

pub returns-then-not-is_new_property : goal.returns-then-not-is_new_property
returns-then-not-is_new_property c =
    property-name c.args.before.now c.args.line.now (sym c.count.ensures ∙ c.if-count-ne4.false) _ c.nth-name.ensures.is _ c.is_new_property.ensures c.if-not-is_new_property.true _ c.eight-then-not-is_new_property.ensures

pub flags-requires : goal.flags-requires
flags-requires c =
    sym c.count.ensures ∙ c.if-count-ne4.false

pub returns-in_default : goal.returns-in_default
returns-in_default c =
    property-type c.args.before.now c.args.line.now (sym c.count.ensures ∙ c.if-count-ne4.false) _ c.nth-name.ensures.is _ c.is_new_property.ensures c.if-not-is_new_property.false _ c.nth-word.ensures.is _ c.type_of.ensures c.in_default.is _ c.eight-in_default.ensures

pub returns : goal.returns
returns c =
    property-flags c.args.before.now c.args.line.now (sym c.count.ensures ∙ c.if-count-ne4.false) _ c.nth-name.ensures.is _ c.is_new_property.ensures c.if-not-is_new_property.false _ c.nth-word.ensures.is _ c.type_of.ensures _ c.in-Some.is _ c.flags.ensures
