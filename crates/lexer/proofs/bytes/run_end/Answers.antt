use Prim.Native.Nat.{◌-◌, ◌≤◌}
use native.Mathlib.Omega.{arith}
use lib.ListN.{length, length-drop}
use Rattle.std.proofs.lemmas.List.Sums.{prefix_len-le-length}
use Rattle.lexer.proofs.Law.Runs.{run-prefix}
use Rattle.lexer.proofs.bytes.run_end.Goals as goal

pub overflow_add-result : goal.overflow_add-result
overflow_add-result c =
    let h : c.run.result ≤ length c.args.text.now - c.args.at = rw (c.run.ensures, c.rest.ensures, ← length-drop c.args.at c.args.text.now) (prefix_len-le-length _ _) in
    omega arith

pub returns : goal.returns
returns c = rw (c.run.ensures, c.rest.ensures, run-prefix)
