use mathlib.Core.Path.{◌∙◌, ap}
use native.Mathlib.Omega.{arith}
use Rattle.output.specs.Line.{front}
use Rattle.painter.proofs.Printed.{drawn-is}
use Rattle.blocks.proofs.Law.Printing.{asked, at_first, at-end, room-left, known, end-inside, end-behind, on-next, page-is, progress-is, advances}
use Rattle.blocks.proofs.features.lines.Goals as goal

pub loop-values-init : goal.loop-values-init
loop-values-init c =
    at_first _ _ _ _ _ _ _

pub overflow_sub-out : goal.overflow_sub-out
overflow_sub-out c =
    room-left _ _ _ _ _ _ _ _ _ _ _ _ _ c.loop-values.invariant

pub returns-then-not-is_next : goal.returns-then-not-is_next
returns-then-not-is_next c =
    let s = at-end _ _ _ _ _ _ _ _ _ _ _ _ c.loop-values.invariant _ c.end-end.ensures in
    let over = asked _ _ _ _ _ _ _ _ _ _ _ _ _ s _ _ c.is_whole-whole.ensures c.is_next.ensures _ c.if-not-is_next.true in
    record {
      progress = progress-is _ _ _ _ _ _ _ _ _ _ _ _ _ s over _ c.left_from.ensures;
      written = page-is _ _ _ _ _ _ _ _ _ _ _ _ _ s over;
      advances = advances _ _ _ _ _ _ _ _ _ _ _ _ _ s over _ c.left_from.ensures;
    }

pub slice_bounds-line-end : goal.slice_bounds-line-end
slice_bounds-line-end c =
    let s = at-end _ _ _ _ _ _ _ _ _ _ _ _ c.loop-values.invariant _ c.end-end.ensures in
    let more = asked _ _ _ _ _ _ _ _ _ _ _ _ _ s _ _ c.is_whole-whole.ensures c.is_next.ensures _ c.if-not-is_next.false in
    end-inside _ _ _ _ _ _ _ _ _ _ _ _ _ s more

pub loop-values-smaller : goal.loop-values-smaller
loop-values-smaller c =
    let s = at-end _ _ _ _ _ _ _ _ _ _ _ _ c.loop-values.invariant _ c.end-end.ensures in
    let more = asked _ _ _ _ _ _ _ _ _ _ _ _ _ s _ _ c.is_whole-whole.ensures c.is_next.ensures _ c.if-not-is_next.false in
    omega (arith, (known _ _ _ _ _ _ _ _ _ _ _ _ _ s more).0, end-behind _ _ _ _ _ _ _ _ _ _ _ _ _ s)

pub loop-values-preserved : goal.loop-values-preserved
loop-values-preserved c =
    let s = at-end _ _ _ _ _ _ _ _ _ _ _ _ c.loop-values.invariant _ c.end-end.ensures in
    let more = asked _ _ _ _ _ _ _ _ _ _ _ _ _ s _ _ c.is_whole-whole.ensures c.is_next.ensures _ c.if-not-is_next.false in
    let printed = c.line-printed.ensures.is ∙ ap (front _) (drawn-is _ _) in
    on-next _ _ _ _ _ _ _ _ _ _ _ _ _ s more _ c.given-drawn.ensures.answer _ _ _ printed c.given-drawn.ensures.values
