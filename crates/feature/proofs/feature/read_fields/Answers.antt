use mathlib.Core.Path.{◌∙◌, ap₂}
use native.Mathlib.Omega.{arith}
use Rattle.feature.specs.Field.{conformed}
use Rattle.text.proofs.Law.Parts.{some-part, end-from, end-within}
use Rattle.feature.proofs.Law.Lines.{other-count, fields-start, at_field, field-wrong, field_stored, all-stored}
use Rattle.feature.proofs.feature.read_fields.Goals as goal

pub overflow_sub-count : goal.overflow_sub-count
overflow_sub-count c =
    omega (arith, c.count.ensures, some-part 9 c.args.line.now)

pub returns-then-count-properties : goal.returns-then-count-properties
returns-then-count-properties c =
    rw c.refused.ensures (other-count _ _ _ _ _ c.count.ensures c.if-count-properties.true)

pub overflow_add-at : goal.overflow_add-at
overflow_add-at c =
    omega (arith, c.requires, c.end-at.ensures, end-within 9 c.args.line.now 0 (omega arith))

pub loop-i-init : goal.loop-i-init
loop-i-init c =
    fields-start _ _ _ _ _ c.count.ensures c.if-count-properties.false c.end-at.ensures _

pub read-requires : goal.read-requires
read-requires c =
    let h = at_field _ _ _ _ _ _ _ c.loop-i.invariant c.loop-i-test.true in
    let line = c.args.line.now in
    (omega (arith, c.end-end.ensures, end-from 9 line c.loop-i.at), omega (arith, c.end-end.ensures, end-within 9 line c.loop-i.at h))

pub returns-in_default : goal.returns-in_default
returns-in_default c =
    rw c.refused-in_default.ensures (field-wrong _ _ _ _ _ _ _ c.loop-i.invariant _ _ c.loop-i-test.true c.end-end.ensures (c.conforming.ensures ∙ ap₂ conformed c.set_at.ensures c.read.ensures) c.in_default.is)

pub overflow_add-at-in-loop-i : goal.overflow_add-at-in-loop-i
overflow_add-at-in-loop-i c =
    omega (arith, c.requires, c.end-end.ensures, end-within 9 c.args.line.now c.loop-i.at (at_field _ _ _ _ _ _ _ c.loop-i.invariant c.loop-i-test.true))

pub loop-i-preserved : goal.loop-i-preserved
loop-i-preserved c =
    field_stored _ _ _ _ _ _ _ c.loop-i.invariant _ _ c.loop-i-test.true c.end-end.ensures (c.conforming.ensures ∙ ap₂ conformed c.set_at.ensures c.read.ensures) _ _ c.in-Some.is c.store.ensures

pub returns : goal.returns
returns c =
    all-stored _ _ _ _ _ _ _ c.loop-i.invariant c.loop-i-test.false
