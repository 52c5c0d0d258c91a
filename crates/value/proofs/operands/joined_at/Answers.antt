use mathlib.Core.Path.{sym, ◌∙◌}
use Rattle.value.specs.Value.{at}
use Rattle.value.specs.Meaning.{operand, joined_at}
use Rattle.value.specs.declared.value.Value.TheVariants.{Undefined}
use Rattle.value.proofs.Law.Operands.{within, past}
use Rattle.value.proofs.operands.joined_at.Goals as goal

pub loop-v-init : goal.loop-v-init
unfolding joined_at
loop-v-init c = λ i. joined_at c.args.operands.now c.args.i

pub loop-v-preserved : goal.loop-v-preserved
loop-v-preserved c =
    let s = c.loop-v in
    let vs = c.args.operands.now in
    rw (c.dimension-n.ensures, c.kind.ensures)
    (sym (past vs s.v-index Undefined s.rest (at 0 (operand 0 vs)) c.loop-v-test.true (rw (c.dimension-n.ensures, c.kind.ensures) at c.if-rest-n.false))
    ∙ s.invariant)

pub returns-then-rest-n : goal.returns-then-rest-n
returns-then-rest-n c =
    let s = c.loop-v in
    let vs = c.args.operands.now in
    c.component.ensures
    ∙ sym (within vs s.v-index Undefined s.rest (at 0 (operand 0 vs)) c.loop-v-test.true (rw (c.dimension-n.ensures, c.kind.ensures) at c.if-rest-n.true))
    ∙ s.invariant
