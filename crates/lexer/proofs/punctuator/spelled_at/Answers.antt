use Rattle.lexer.proofs.Law.Punctuators.{by_three}
use Rattle.lexer.proofs.punctuator.spelled_at.Goals as goal

pub returns : goal.returns
returns c = rw (c.spelled_by.ensures, c.byte_after-3.ensures, c.byte_after-2.ensures, c.byte_after.ensures) (by_three _)
