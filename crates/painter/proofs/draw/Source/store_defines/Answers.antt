use mathlib.Core.Path.{ap}
use native.Mathlib.Omega.{arith}
use Rattle.plan.specs.Layout.{define_count, number_at}
use Rattle.painter.proofs.Law.Turns.{storing-start, storing-turn, storing-end}
use Rattle.painter.proofs.draw.Source.store_defines.Goals as goal

pub loop-i-init : goal.loop-i-init
loop-i-init c =
    storing-start _ _ _

pub loop-i-preserved : goal.loop-i-preserved
loop-i-preserved c =
    storing-turn _ _ _ _ _ c.loop-i.invariant (omega (arith, c.min-i-end.ensures, c.number_at.ensures, ap (λ x. number_at x.plan define_count) c.self.view_is, c.loop-i-test.true)) _ c.row_value-value.ensures _ c.store.ensures

pub returns : goal.returns
returns c =
    storing-end _ _ _ _ _ c.loop-i.invariant (omega (arith, c.min-i-end.ensures, c.number_at.ensures, ap (λ x. number_at x.plan define_count) c.self.view_is, c.loop-i-test.false))
