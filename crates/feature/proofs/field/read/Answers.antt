use mathlib.Core.Path.{sym, ◌∙◌}
use Rattle.lexer.proofs.Law.Spelling.{slice_is}
use Rattle.feature.proofs.Law.Fields.{ends, compared, says-null, says-true, says-false, says-text, says-numbers}
use Rattle.feature.proofs.field.read.Goals as goal

-- `read` is the definition: the words in turn, and then by the first byte.
pub returns-then-eq : goal.returns-then-eq
returns-then-eq c =
    let a = c.args in
    rw (slice_is a.start a.end a.line.now) (says-null _ _ (sym c.is_empty.ensures ∙ c.if-is_empty.false) (compared c.args.start _ _ _ _ _ c.as_slice.ensures c.eq.ensures c.if-eq.true))

pub returns-then-eq-2 : goal.returns-then-eq-2
returns-then-eq-2 c =
    let a = c.args in
    rw (slice_is a.start a.end a.line.now) (says-true _ _ (sym c.is_empty.ensures ∙ c.if-is_empty.false) (compared c.args.start _ _ _ _ _ c.as_slice.ensures c.eq.ensures c.if-eq.false) (compared c.args.start _ _ _ _ _ c.as_slice-else-eq.ensures c.eq-else-eq.ensures c.if-eq-2.true))

pub returns-then-eq-3 : goal.returns-then-eq-3
returns-then-eq-3 c =
    let a = c.args in
    rw (slice_is a.start a.end a.line.now) (says-false _ _ (sym c.is_empty.ensures ∙ c.if-is_empty.false) (compared c.args.start _ _ _ _ _ c.as_slice.ensures c.eq.ensures c.if-eq.false) (compared c.args.start _ _ _ _ _ c.as_slice-else-eq.ensures c.eq-else-eq.ensures c.if-eq-2.false) (compared c.args.start _ _ _ _ _ c.as_slice-else-eq-2.ensures c.eq-else-eq-2.ensures c.if-eq-3.true))

pub returns-then-starts_with : goal.returns-then-starts_with
returns-then-starts_with c =
    let a = c.args in
    rw (slice_is a.start a.end a.line.now) (says-text _ _ (sym c.is_empty.ensures ∙ c.if-is_empty.false) (compared c.args.start _ _ _ _ _ c.as_slice.ensures c.eq.ensures c.if-eq.false) (compared c.args.start _ _ _ _ _ c.as_slice-else-eq.ensures c.eq-else-eq.ensures c.if-eq-2.false) (compared c.args.start _ _ _ _ _ c.as_slice-else-eq-2.ensures c.eq-else-eq-2.ensures c.if-eq-3.false) _ _ c.starts_with.ensures.value c.if-starts_with.true _ (ends a.line.now a.start a.end c.requires.0 c.requires.1) c.string.ensures)

pub returns-else-starts_with : goal.returns-else-starts_with
returns-else-starts_with c =
    let a = c.args in
    rw (slice_is a.start a.end a.line.now) (says-numbers _ _ (sym c.is_empty.ensures ∙ c.if-is_empty.false) (compared c.args.start _ _ _ _ _ c.as_slice.ensures c.eq.ensures c.if-eq.false) (compared c.args.start _ _ _ _ _ c.as_slice-else-eq.ensures c.eq-else-eq.ensures c.if-eq-2.false) (compared c.args.start _ _ _ _ _ c.as_slice-else-eq-2.ensures c.eq-else-eq-2.ensures c.if-eq-3.false) _ _ c.starts_with.ensures.value c.if-starts_with.false c.numbers.ensures)
