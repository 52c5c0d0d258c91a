use native.Mathlib.Omega.{arith}
use Rattle.syntax.proofs.Law.Symbols.{member-is}
use Rattle.syntax.proofs.symbol.Symbol.member.Goals as goal

pub overflow_cast-result : goal.overflow_cast-result
overflow_cast-result c = let k = member-is c.args.text.now c.args.self c.member_index.ensures in omega arith

pub returns : goal.returns
returns c = (member-is c.args.text.now c.args.self c.member_index.ensures).0
