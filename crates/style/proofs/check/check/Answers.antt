use Rattle.style.proofs.Law.Calls.{zeroed}
use Rattle.style.proofs.check.check.Goals as goal

pub returns-clause-zero : goal.returns-clause-zero
returns-clause-zero c =
    zeroed c.args.room.now c.args.head.now _ c.compile.ensures.room c.compile.result c.compile.ensures.answer c.in_ok-compile.was c.compile.auto.room _ c.clear.ensures
