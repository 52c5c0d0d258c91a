use Rattle.lexer.proofs.Law.Runs.{starts-begins}
use Rattle.lexer.proofs.bytes.has_word.Goals as goal

pub returns : goal.returns
returns c = rw (c.starts_with.ensures.value, c.rest.ensures) (starts-begins c.args.word.now _)
