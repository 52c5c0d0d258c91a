use native.Mathlib.Omega.{arith}
use Rattle.lexer.proofs.Law.Punctuators.{punctuator-takes, punctuator-is}
use Rattle.lexer.proofs.token.punctuator_at.Goals as goal

pub overflow_add-end : goal.overflow_add-end
overflow_add-end c = omega (arith, (punctuator-takes _ _ _ c.requires c.spelled_at-number.ensures).1)

pub returns-in-Some : goal.returns-in-Some
returns-in-Some c = punctuator-is _ _ _ _ c.in-Some.is c.spelled_at-number.ensures

pub returns-in-None : goal.returns-in-None
returns-in-None c = punctuator-is _ _ _ _ c.in-None.is c.spelled_at-number.ensures
