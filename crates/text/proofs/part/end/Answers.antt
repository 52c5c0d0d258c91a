use mathlib.Core.Path.{◌∙◌, ap}
use mathlib.Core.Bool.{not}
use Prim.Native.Nat.{ℕ, ◌+◌}
use native.Mathlib.Omega.{arith}
use lib.Dec.{eqb}
use lib.ListN.{drop, length-drop}
use lib.Seq.{take_all}
use Rattle.std.proofs.Common.{rules, tests}
use Rattle.std.proofs.lemmas.Iterator.{YieldsList-from_slice}
use Rattle.std.proofs.lemmas.Iterator.Consumers.{count_from_yields_List}
use Rattle.std.proofs.lemmas.Iterator.Search.{YieldsList-from_take_while}
use Rattle.std.proofs.lemmas.List.Folds.{length-prefix_len}
use Rattle.lexer.specs.Bytes.{run}
use Rattle.lexer.proofs.Law.Runs.{run_past}
use Rattle.text.proofs.Law.Parts.{run-prefix}
use Rattle.text.proofs.part.end.Goals as goal

pub returns-in-Some : goal.returns-in-Some
returns-in-Some c =
    let p = λ (x : ℕ). not (eqb x c.args.separator) in
    ap (λ (n : ℕ). c.args.at + n)
    (count_from_yields_List c.take_while.result _ c.count.ensures.ran
    (YieldsList-from_take_while _ p (YieldsList-from_slice c.in-Some.rest.now cc) c.take_while.ensures.closure c.take_while.ensures.done (λ x r q k. search (rules, tests)))
    ∙ length-prefix_len p c.in-Some.rest.now
    ∙ run-prefix p c.in-Some.rest.now
    ∙ ap (run p) (c.in-Some.ensures.lookup.0.2 ∙ take_all _ (drop c.args.at c.args.text.now) (omega (arith, length-drop c.args.at c.args.text.now))))

pub returns-in-None : goal.returns-in-None
returns-in-None c =
    run_past (λ x. not (eqb x c.args.separator)) c.args.text.now c.args.at (omega (arith, c.in-None.ensures.lookup))
