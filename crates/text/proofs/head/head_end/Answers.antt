use Prim.Native.Nat.{◌≤◌}
use lib.ListN.{length}
use Rattle.text.proofs.Law.Parts.{end-within}
use Rattle.text.proofs.Law.Heads.{at-end, at-feature, at_last, on-next}
use Rattle.text.proofs.head.head_end.Goals as goal

pub slice_bounds-is_feature-end : goal.slice_bounds-is_feature-end
slice_bounds-is_feature-end c =
    rw c.end-end.ensures (end-within _ _ _ c.loop-at.invariant.inside)

pub returns-then-is_feature : goal.returns-then-is_feature
returns-then-is_feature c =
    record {
      is = at-feature _ _ c.loop-at.invariant _ c.loop-at-test.true c.end-end.ensures _ c.is_feature.ensures c.if-is_feature.true;
      inside = c.loop-at.invariant.inside;
    }

pub returns-then-input-end : goal.returns-then-input-end
returns-then-input-end c =
    let inside : c.end-end.result ≤ length c.args.input.now = rw c.end-end.ensures (end-within _ _ _ c.loop-at.invariant.inside) in
    record {
      is = at_last _ _ c.loop-at.invariant _ c.loop-at-test.true c.end-end.ensures _ c.is_feature.ensures c.if-is_feature.false inside c.if-input-end.true;
      inside = inside;
    }

pub loop-at-preserved : goal.loop-at-preserved
loop-at-preserved c =
    on-next _ _ c.loop-at.invariant _ c.loop-at-test.true c.end-end.ensures _ c.is_feature.ensures c.if-is_feature.false c.if-input-end.false

pub returns : goal.returns
returns c =
    record { is = at-end _ _ c.loop-at.invariant c.loop-at-test.false; inside = c.loop-at.invariant.inside }
