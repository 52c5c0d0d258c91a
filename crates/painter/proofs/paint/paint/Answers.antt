use Rattle.std.proofs.lemmas.Result.{err_from_is_err_and}
use mathlib.Core.Path.{refl}
use lib.ListN.{length, length-replicate}
use Rattle.value.specs.declared.value.Value.{Value}
use Rattle.value.specs.declared.value.Value.TheVariants.{Undefined}
use Rattle.plan.specs.Layout.{undeclared}
use Rattle.painter.proofs.Law.Calls.{short-answer, short-room, refused-answer, refused-room, painted-answer, painted-out, painted-room}
use Rattle.painter.proofs.paint.paint.Goals as goal

pub returns-then-out-lt-LEAST_BYTES : goal.returns-then-out-lt-LEAST_BYTES
returns-then-out-lt-LEAST_BYTES c =
    let a = c.args in record {
      answer = short-answer (length a.out.now) a.room.now a.head.now a.number a.feature.now c.if-out-lt-LEAST_BYTES.true;
      written = refl;
      zero = short-room (length a.out.now) a.room.now a.head.now a.number a.feature.now c.if-out-lt-LEAST_BYTES.true;
    }

pub returns-in_err-compile : goal.returns-in_err-compile
returns-in_err-compile c =
    let a = c.args in
    let p = err_from_is_err_and c.from_residual.result c.from_residual.ensures.1 in
    rw (p.1, p.2) (record {
      answer = refused-answer (length a.out.now) a.room.now a.head.now a.number a.feature.now c.if-out-lt-LEAST_BYTES.false _ c.compile.ensures.answer _ c.in_err-compile.was;
      written = refl;
      zero = refused-room (length a.out.now) a.room.now a.head.now a.number a.feature.now c.if-out-lt-LEAST_BYTES.false _ c.compile.ensures.answer _ c.in_err-compile.was _ c.compile.ensures.room;
    })

pub returns : goal.returns
returns c =
    let a = c.args in record {
      answer = painted-answer (length a.out.now) a.room.now a.head.now a.number a.feature.now c.if-out-lt-LEAST_BYTES.false _ c.compile.ensures.answer c.in_ok-compile.was _ _ (length-replicate {A = Value} undeclared Undefined) a.out.now refl _ _ _ _ c.compile.ensures.room c.compile.ensures.plan c.apply-painted.ensures.answer;
      written = painted-out (length a.out.now) a.room.now a.head.now a.number a.feature.now c.if-out-lt-LEAST_BYTES.false _ c.compile.ensures.answer c.in_ok-compile.was _ _ (length-replicate {A = Value} undeclared Undefined) a.out.now refl _ _ _ _ c.compile.ensures.room c.compile.ensures.plan c.apply-painted.ensures.answer;
      zero = painted-room (length a.out.now) a.room.now a.head.now a.number a.feature.now c.if-out-lt-LEAST_BYTES.false _ c.compile.ensures.answer c.in_ok-compile.was _ _ c.compile.ensures.room c.clear.ensures;
    }
