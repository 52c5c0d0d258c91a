use mathlib.Core.Path.{subst}
use Prim.Native.Nat.{ℕ, ◌≤◌}
use native.Mathlib.Omega.{arith}
use lib.ListN.{length}
use Rattle.text.proofs.Law.Parts.{from_first, next-from, found, part_none, end-within}
use Rattle.text.proofs.part.nth.Goals as goal

pub loop-init : goal.loop-init
loop-init c =
    from_first _ _

pub returns-then-text-stop-clause-is : goal.returns-then-text-stop-clause-is
returns-then-text-stop-clause-is c =
    part_none _ _ _ _ c.loop.invariant (subst (λ (n : ℕ). length c.args.text.now ≤ n) c.end-stop.ensures c.if-text-stop.true) _ c.loop-test.true

pub loop-preserved : goal.loop-preserved
loop-preserved c =
    next-from _ _ _ _ _ c.end-stop.ensures c.loop.invariant c.if-text-stop.false

pub returns-clause-is : goal.returns-clause-is
returns-clause-is c =
    found _ _ _ _ _ _ (omega (arith, c.loop-test.false, c.loop.auto.counter-end)) c.loop.invariant c.end.ensures

pub returns-clause-inside : goal.returns-clause-inside
returns-clause-inside c =
    omega (arith, c.end.ensures, end-within c.args.separator c.args.text.now c.loop.start c.loop.invariant.inside)
