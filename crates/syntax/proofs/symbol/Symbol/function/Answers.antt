use native.Mathlib.Omega.{arith}
use Rattle.syntax.proofs.Law.Symbols.{function-is}
use Rattle.syntax.proofs.symbol.Symbol.function.Goals as goal

pub overflow_cast-result : goal.overflow_cast-result
overflow_cast-result c = let k = function-is c.args.text.now c.args.self c.function_number.ensures in omega arith

pub returns : goal.returns
returns c = (function-is c.args.text.now c.args.self c.function_number.ensures).0
