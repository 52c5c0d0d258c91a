use Prim.Native.Nat.{◌≤◌}
use Rattle.std.proofs.Common.{rules}
use native.Mathlib.Omega.{arith}
use lib.ListN.{length}
use Rattle.lexer.specs.Bytes.{in_class}
use Rattle.lexer.specs.declared.bytes.Class.TheVariants.{Name}
use Rattle.lexer.proofs.Law.Runs.{run-within}
use Rattle.lexer.proofs.Law.Forms.{word-is}
use Rattle.lexer.proofs.token.word_at.Goals as goal

pub slice_bounds-word_number-end : goal.slice_bounds-word_number-end
slice_bounds-word_number-end c =
    let h = run-within (in_class Name) c.args.text.now c.args.at (omega (arith, c.requires)) in
    let k : c.args.at ≤ c.run_end-end.result = omega (arith, c.run_end-end.ensures) in
    let l : c.run_end-end.result ≤ length c.args.text.now = omega (arith, c.run_end-end.ensures) in
    search rules

pub returns : goal.returns
returns c = word-is c.args.text.now c.args.at _ _ c.run_end-end.ensures c.word_number.ensures
