-- The line lies in the output.
use Rattle.std.proofs.Common.{arith}
use Rattle.output.proofs.Law.Lines.{front-within}
use Rattle.ledger_cases.proofs.made.line.Goals as goal

pub returns-in-Err : goal.returns-in-Err
returns-in-Err c = omega (arith, front-within _ _ c.refused_feature.ensures)
