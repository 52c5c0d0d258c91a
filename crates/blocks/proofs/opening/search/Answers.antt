use mathlib.Core.Path.{refl}
use native.Mathlib.Omega.{arith}
use Rattle.blocks.proofs.Law.Searching.{not_found, order, found_it, on-next}
use Rattle.blocks.proofs.opening.search.Goals as goal

pub loop-from-init : goal.loop-from-init
loop-from-init c =
    refl

pub returns-then-window-end : goal.returns-then-window-end
returns-then-window-end c =
    not_found _ _ _ _ c.loop-from.invariant c.end-end.ensures c.if-window-end.true

pub returns-then-is_feature : goal.returns-then-is_feature
returns-then-is_feature c =
    found_it _ _ _ _ c.loop-from.invariant c.end-end.ensures c.if-window-end.false _ c.is_feature.ensures c.if-is_feature.true

pub loop-from-smaller : goal.loop-from-smaller
loop-from-smaller c =
    omega (arith, order _ _ _ _ c.loop-from.invariant c.end-end.ensures c.if-window-end.false)

pub loop-from-preserved : goal.loop-from-preserved
loop-from-preserved c =
    on-next _ _ _ _ c.loop-from.invariant c.end-end.ensures c.if-window-end.false _ c.is_feature.ensures c.if-is_feature.false
