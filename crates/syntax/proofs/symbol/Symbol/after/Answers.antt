use Rattle.syntax.proofs.Law.Symbols.{follows-at}
use Rattle.syntax.proofs.symbol.Symbol.after.Goals as goal

pub returns : goal.returns
returns c = rw c.symbol_at.ensures (follows-at c.requires)
