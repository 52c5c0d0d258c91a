use Rattle.painter.specs.Applied.{source}
use Rattle.painter.proofs.Law.Turns.{row-none, row-no_head, row-no_slots, row_inside}
use Rattle.painter.proofs.draw.Source.row_value.Goals as goal

-- `row_value`: by the tests in turn.
pub returns-then-row-ge-EXPRESSIONS : goal.returns-then-row-ge-EXPRESSIONS
returns-then-row-ge-EXPRESSIONS c =
    row-none _ _ _ c.if-row-ge-EXPRESSIONS.true

pub returns-in_default : goal.returns-in_default
returns-in_default c =
    let s = c.self.inside in
    rw (← c.self.view_is) (row-no_head (source s.head.now s.feature.now s.room.now s.plan.now) _ _ c.if-row-ge-EXPRESSIONS.false _ _ c.number_at-from.ensures c.number_at-to.ensures c.in_default.ensures.lookup.0)

pub returns-in_default-get : goal.returns-in_default-get
returns-in_default-get c =
    let s = c.self.inside in
    rw (← c.self.view_is) (row-no_slots (source s.head.now s.feature.now s.room.now s.plan.now) _ _ c.if-row-ge-EXPRESSIONS.false _ _ c.number_at-from.ensures c.number_at-to.ensures c.in_default-get.ensures.lookup.0)

pub returns : goal.returns
returns c =
    let s = c.self.inside in
    let h = c.in-Some.ensures.lookup.0 in
    let k = c.in-Some-get.ensures.lookup.0 in
    rw (← c.self.view_is, c.value_in.ensures, c.evaluate.ensures) (row_inside (source s.head.now s.feature.now s.room.now s.plan.now) _ _ c.if-row-ge-EXPRESSIONS.false _ _ c.number_at-from.ensures c.number_at-to.ensures k.0 h.1 k.1 _ c.number_at-root.ensures _ _ h.2 k.2)
