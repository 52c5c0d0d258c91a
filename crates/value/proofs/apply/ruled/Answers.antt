use Rattle.value.proofs.Law.Operands.{over}
use Rattle.value.proofs.apply.ruled.Goals as goal

pub returns-in_default : goal.returns-in_default
returns-in_default c = over c.args.operation c.args.operands.now c.in_default.len_at_least
