-- The line lies in what is left of the output.
use Rattle.output.proofs.Law.Lines.{front-within}
use Rattle.std.proofs.Common.{arith, length-drop}
use Rattle.ledger_cases.proofs.made.refused.Goals as goal

pub overflow_add-result : goal.overflow_add-result
overflow_add-result c = omega (arith, front-within _ _ c.refused_head.ensures, length-drop c.args.heading c.args.out.now)

pub returns : goal.returns
returns c = omega (arith, front-within _ _ c.refused_head.ensures, length-drop c.args.heading c.args.out.now)
