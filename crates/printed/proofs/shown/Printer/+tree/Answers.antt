use mathlib.Core.Path.{sym, ◌∙◌}
use Rattle.tree.specs.Node.{tree_at}
use Rattle.syntax.proofs.Law.Nodes.{arguments-end, arguments-step}
use Rattle.printed.specs.Shown.{shown}
use Rattle.output.proofs.Law.Pages.{full_page, then}
use Rattle.printed.proofs.Law.Trees.{shown-step}
use Rattle.printed.proofs.shown.Printer.+tree.Goals as goal

pub arguments-returns-then-commas-eq0 : goal.arguments-returns-then-commas-eq0
unfolding shown
arguments-returns-then-commas-eq0 t c =
    rw (arguments-end _ _ _ _ c.if-commas-eq0.true) c.tree.ensures

pub arguments-returns-in-None : goal.arguments-returns-in-None
unfolding shown
arguments-returns-in-None t c =
    rw (arguments-step _ _ _ _ _ c.if-commas-eq0.false (sym c.in-None.is ∙ c.argument_at.ensures)) c.tree-in-None.ensures

pub arguments-returns-in-Some : goal.arguments-returns-in-Some
unfolding shown
arguments-returns-in-Some t c =
    rw (arguments-step _ _ _ _ _ c.if-commas-eq0.false (sym c.in-Some.is ∙ c.argument_at.ensures)) (then _ _ c.tree-in-Some.ensures (then _ _ c.text.ensures c.arguments.ensures))

pub binary-returns : goal.binary-returns
binary-returns t c =
    then _ _ c.byte.ensures (then _ _ c.tree.ensures (then _ _ c.between.ensures (then _ _ c.tree-2.ensures c.byte-2.ensures)))

pub call-returns : goal.call-returns
call-returns t c =
    then _ _ c.called.ensures (then _ _ c.arguments.ensures c.byte.ensures)

pub conditional-returns : goal.conditional-returns
conditional-returns t c =
    then _ _ c.byte.ensures (then _ _ c.tree.ensures (then _ _ c.between.ensures (then _ _ c.tree-2.ensures (then _ _ c.between-2.ensures (then _ _ c.tree-3.ensures c.byte-2.ensures)))))

pub pick-returns : goal.pick-returns
pick-returns t c =
    then _ _ c.tree.ensures c.behind.ensures

pub unary-returns : goal.unary-returns
unary-returns t c =
    then _ _ c.byte.ensures (then _ _ c.sign.ensures (then _ _ c.tree.ensures c.byte-2.ensures))

pub tree-returns-then-page : goal.tree-returns-then-page
tree-returns-then-page t c =
    full_page _ c.if-page.true

pub tree-returns-then-allowance-eq0 : goal.tree-returns-then-allowance-eq0
unfolding tree_at shown
tree-returns-then-allowance-eq0 t c =
    rw c.if-allowance-eq0.true c.leaf.ensures

pub tree-returns-in-Literal : goal.tree-returns-in-Literal
tree-returns-in-Literal t c =
    rw (shown-step _ _ _ _ _ _ c.if-allowance-eq0.false (sym c.in-Literal.is ∙ c.node_at.ensures)) c.leaf-in-Literal.ensures

pub tree-returns-in-Variable : goal.tree-returns-in-Variable
tree-returns-in-Variable t c =
    rw (shown-step _ _ _ _ _ _ c.if-allowance-eq0.false (sym c.in-Variable.is ∙ c.node_at.ensures)) c.named.ensures

pub tree-returns-in-Unary : goal.tree-returns-in-Unary
tree-returns-in-Unary t c =
    rw (shown-step _ _ _ _ _ _ c.if-allowance-eq0.false (sym c.in-Unary.is ∙ c.node_at.ensures)) c.unary.ensures

pub tree-returns-in-Binary : goal.tree-returns-in-Binary
tree-returns-in-Binary t c =
    rw (shown-step _ _ _ _ _ _ c.if-allowance-eq0.false (sym c.in-Binary.is ∙ c.node_at.ensures)) c.binary.ensures

pub tree-returns-in-Conditional : goal.tree-returns-in-Conditional
tree-returns-in-Conditional t c =
    rw (shown-step _ _ _ _ _ _ c.if-allowance-eq0.false (sym c.in-Conditional.is ∙ c.node_at.ensures)) c.conditional.ensures

pub tree-returns-in-Bare : goal.tree-returns-in-Bare
tree-returns-in-Bare t c =
    rw (shown-step _ _ _ _ _ _ c.if-allowance-eq0.false (sym c.in-Bare.is ∙ c.node_at.ensures)) c.bare.ensures

pub tree-returns-in-Call : goal.tree-returns-in-Call
tree-returns-in-Call t c =
    rw (shown-step _ _ _ _ _ _ c.if-allowance-eq0.false (sym c.in-Call.is ∙ c.node_at.ensures)) c.call.ensures

pub tree-returns-in-Pick : goal.tree-returns-in-Pick
tree-returns-in-Pick t c =
    rw (shown-step _ _ _ _ _ _ c.if-allowance-eq0.false (sym c.in-Pick.is ∙ c.node_at.ensures)) c.pick.ensures
