use Rattle.std.proofs.lemmas.Result.{err_from_is_err_and}
use Rattle.painter.specs.Applied.{source}
use Rattle.painter.proofs.Law.Calls.{applied-short, applied-refused, applied-given}
use Rattle.painter.proofs.apply.apply.Goals as goal

pub returns-then-out-lt-LEAST_BYTES : goal.returns-then-out-lt-LEAST_BYTES
returns-then-out-lt-LEAST_BYTES c =
    let a = c.args in
    let held = applied-short (source a.head.now a.feature.now a.room.now a.plan.now) a.number a.out.now a.values.now c.if-out-lt-LEAST_BYTES.true in
    record { answer = held.0; values = held.1 }

pub returns-in_err-given : goal.returns-in_err-given
returns-in_err-given c =
    let a = c.args in
    let held = applied-refused (source a.head.now a.feature.now a.room.now a.plan.now) a.number a.out.now a.values.now c.if-out-lt-LEAST_BYTES.false _ c.given.ensures.values _ c.given.ensures.answer _ c.in_err-given.was in
    let p = err_from_is_err_and c.from_residual.result c.from_residual.ensures.1 in
    rw (p.1, p.2) (record { answer = held.0; values = held.1 })

pub returns : goal.returns
returns c =
    let a = c.args in
    let held = applied-given (source a.head.now a.feature.now a.room.now a.plan.now) a.number a.out.now a.values.now c.if-out-lt-LEAST_BYTES.false _ c.given.ensures.values _ c.given.ensures.answer _ c.in_ok-given.was _ _ c.painted-bytes.ensures in
    record { answer = held.0; values = held.1 }
