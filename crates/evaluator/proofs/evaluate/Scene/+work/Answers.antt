use mathlib.Core.Path.{sym, ◌∙◌}
use native.Mathlib.Omega.{arith}
use Rattle.tree.specs.Node.{tree_at}
use Rattle.evaluator.specs.Eval.{eval_of}
use Rattle.evaluator.proofs.Law.Calls.{called-over, next-more, next-fault, next-over, last-fault, last-over, last-values}
use Rattle.evaluator.proofs.Law.Tries.{was-ok, was-in, was-err}
use Rattle.evaluator.proofs.Law.Trees.{eval-step}
use Rattle.evaluator.proofs.evaluate.Scene.+work.Goals as goal

pub call-returns-then-are_over : goal.call-returns-then-are_over
call-returns-then-are_over t c =
    called-over c.args.self.now c.args.allowance c.args.function c.args.arguments (sym c.are_over.ensures ∙ c.if-are_over.true)

pub call-returns-in_err-work : goal.call-returns-in_err-work
call-returns-in_err-work t c =
    let l = c.loop-first in
    let s = c.args.self.now in
    c.from_residual-in_err-work.ensures
    ∙ next-fault s c.args.allowance l.operands.items l.at l.invariant.0 l.invariant.1
    c.in-Some.ensures c.work.ensures (sym c.function_at.ensures ∙ c.in_ok-operation.was) c.in_err-work.was

pub call-returns-in_err-ok : goal.call-returns-in_err-ok
call-returns-in_err-ok t c =
    let l = c.loop-first in
    let s = c.args.self.now in
    c.from_residual-in_err-ok.ensures
    ∙ next-over s c.args.allowance l.operands.items l.at l.invariant.0 l.invariant.1
    c.in-Some.ensures c.work.ensures (sym c.function_at.ensures ∙ c.in_ok-operation.was) _ c.in_ok-work.was
    (was-err _ _ c.ok.ensures.value c.in_err-ok.was c.try_push.ensures.full)

pub call-loop-first-preserved : goal.call-loop-first-preserved
call-loop-first-preserved t c =
    let l = c.loop-first in
    let s = c.args.self.now in
    let items = was-ok _ _ c.ok.ensures.value c.in_ok-ok.was c.try_push.ensures.ok in
    let len = was-ok _ _ c.ok.ensures.value c.in_ok-ok.was c.try_push.ensures.len in
    let in-room = was-in _ _ c.ok.ensures.value c.in_ok-ok.was c.try_push.ensures.variant in (
      omega (arith, in-room, len),
      next-more s c.args.allowance l.operands.items l.at l.invariant.0 l.invariant.1
          c.in-Some.ensures c.work.ensures _ c.in_ok-work.was _ items len,
    )

pub call-returns-in_err-work-2 : goal.call-returns-in_err-work-2
call-returns-in_err-work-2 t c =
    let l = c.loop-first in
    let s = c.args.self.now in
    c.from_residual-in_err-work-2.ensures
    ∙ last-fault s c.args.allowance l.operands.items l.at l.invariant.0 l.invariant.1
    c.argument_at.ensures c.in_default.not-Some c.work-2.ensures (sym c.function_at.ensures ∙ c.in_ok-operation.was) c.in_err-work-2.was

pub call-returns-in_err-ok-2 : goal.call-returns-in_err-ok-2
call-returns-in_err-ok-2 t c =
    let l = c.loop-first in
    let s = c.args.self.now in
    c.from_residual-in_err-ok-2.ensures
    ∙ last-over s c.args.allowance l.operands.items l.at l.invariant.0 l.invariant.1
    c.argument_at.ensures c.in_default.not-Some c.work-2.ensures (sym c.function_at.ensures ∙ c.in_ok-operation.was) _ c.in_ok-work-2.was
    (was-err _ _ c.ok-2.ensures.value c.in_err-ok-2.was c.try_push-2.ensures.full)

pub call-returns : goal.call-returns
call-returns t c =
    let l = c.loop-first in
    let s = c.args.self.now in
    let items = was-ok _ _ c.ok-2.ensures.value c.in_ok-ok-2.was c.try_push-2.ensures.ok in
    c.apply.ensures
    ∙ rw (c.as_slice.ensures.value, items)
    (last-values s c.args.allowance l.operands.items l.at l.invariant.0 l.invariant.1
    c.argument_at.ensures c.in_default.not-Some c.work-2.ensures (sym c.function_at.ensures ∙ c.in_ok-operation.was) _ c.in_ok-work-2.was)

pub work-returns-then-allowance-eq0 : goal.work-returns-then-allowance-eq0
unfolding tree_at eval_of
work-returns-then-allowance-eq0 t c = rw (c.if-allowance-eq0.true, c.literal.ensures)

pub work-returns-in-Literal : goal.work-returns-in-Literal
work-returns-in-Literal t c = rw (eval-step _ _ _ _ _ c.if-allowance-eq0.false c.in-Literal.ensures, c.literal-in-Literal.ensures)

pub work-returns-in-Variable : goal.work-returns-in-Variable
work-returns-in-Variable t c = rw (eval-step _ _ _ _ _ c.if-allowance-eq0.false c.in-Variable.ensures, c.value_at.ensures)

pub work-returns-in-Unary : goal.work-returns-in-Unary
work-returns-in-Unary t c = rw (eval-step _ _ _ _ _ c.if-allowance-eq0.false c.in-Unary.ensures, ← c.prefix_at.ensures) c.single.ensures

pub work-returns-in-Binary : goal.work-returns-in-Binary
work-returns-in-Binary t c = rw (eval-step _ _ _ _ _ c.if-allowance-eq0.false c.in-Binary.ensures) c.binary.ensures

pub work-returns-in-Conditional : goal.work-returns-in-Conditional
work-returns-in-Conditional t c = rw (eval-step _ _ _ _ _ c.if-allowance-eq0.false c.in-Conditional.ensures) c.conditional.ensures

pub work-returns-in_err-function_at-in-Bare : goal.work-returns-in_err-function_at-in-Bare
work-returns-in_err-function_at-in-Bare t c =
    rw (eval-step _ _ _ _ _ c.if-allowance-eq0.false c.in-Bare.ensures, ← c.function_at.ensures, c.in_err-function_at-in-Bare.was) c.from_residual.ensures

pub work-returns-in_ok-function_at-in-Bare : goal.work-returns-in_ok-function_at-in-Bare
work-returns-in_ok-function_at-in-Bare t c =
    rw (eval-step _ _ _ _ _ c.if-allowance-eq0.false c.in-Bare.ensures, ← c.function_at.ensures, c.in_ok-function_at-in-Bare.was) c.apply.ensures

pub work-returns-in-Call : goal.work-returns-in-Call
work-returns-in-Call t c = rw (eval-step _ _ _ _ _ c.if-allowance-eq0.false c.in-Call.ensures) c.call.ensures

pub work-returns-in-Pick : goal.work-returns-in-Pick
work-returns-in-Pick t c = rw (eval-step _ _ _ _ _ c.if-allowance-eq0.false c.in-Pick.ensures, ← c.pick_at.ensures) c.single-in-Pick.ensures
