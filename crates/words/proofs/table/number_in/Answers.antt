use mathlib.Core.Path.{◌∙◌}
use mathlib.Core.List.{map}
use native.Mathlib.Nat.{zero-add}
use native.Mathlib.Omega.{arith}
use Prim.Native.Nat.{◌≤◌}
use lib.ListN.{length}
use Rattle.std.proofs.Common.{rules}
use Rattle.words.specs.Table.{folded}
use Rattle.words.proofs.Law.Words.{ends-within, found, passed, past}
use Rattle.words.proofs.table.number_in.Goals as goal

pub loop-at-init : goal.loop-at-init
loop-at-init c = (omega arith, zero-add _)

pub slice_bounds-is_word-end : goal.slice_bounds-is_word-end
slice_bounds-is_word-end c =
    let k : c.loop-at.at ≤ c.run_end-end.result = omega (arith, c.run_end-end.ensures) in
    let l : c.run_end-end.result ≤ length c.args.table.now = ends-within c.args.table.now c.loop-at.at _ c.loop-at-test.true c.run_end-end.ensures in
    search rules

pub returns-then-is_word : goal.returns-then-is_word
returns-then-is_word c =
    let a = c.args in
    let l = c.loop-at in
    found a.table.now l.at _ c.loop-at-test.true c.run_end-end.ensures (map (folded a.folding) a.word.now) l.number c.is_word.ensures c.if-is_word.true ∙ l.invariant.1

pub loop-at-preserved : goal.loop-at-preserved
loop-at-preserved c =
    let a = c.args in
    let l = c.loop-at in (
      omega (arith, c.run_end-end.ensures, l.invariant.0),
      passed a.table.now l.at _ c.loop-at-test.true c.run_end-end.ensures (map (folded a.folding) a.word.now) l.number c.is_word.ensures c.if-is_word.false
          ∙ l.invariant.1,
    )

pub returns : goal.returns
returns c =
    let a = c.args in
    let l = c.loop-at in
    past a.table.now (map (folded a.folding) a.word.now) l.at l.number c.loop-at-test.false ∙ l.invariant.1
