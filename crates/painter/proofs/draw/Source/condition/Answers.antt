use mathlib.Core.Path.{sym, ◌∙◌, ap}
use native.Mathlib.Omega.{arith}
use Rattle.value.specs.Value.{truth}
use Rattle.plan.specs.Layout.{condition_count, number_at}
use Rattle.painter.proofs.Law.Turns.{seeking-start, seeking-found, seeking-turn, seeking-end}
use Rattle.painter.proofs.draw.Source.condition.Goals as goal

pub loop-k-init : goal.loop-k-init
loop-k-init c =
    seeking-start _ _

pub returns-then-is_true : goal.returns-then-is_true
returns-then-is_true c =
    seeking-found _ _ _ c.loop-k.invariant (omega (arith, c.min-k-end.ensures, c.number_at.ensures, ap (λ x. number_at x.plan condition_count) c.self.view_is, c.loop-k-test.true)) (ap truth (sym c.row_value.ensures) ∙ sym c.is_true.ensures ∙ c.if-is_true.true) _ c.colour.ensures

pub loop-k-preserved : goal.loop-k-preserved
loop-k-preserved c =
    seeking-turn _ _ _ c.loop-k.invariant (omega (arith, c.min-k-end.ensures, c.number_at.ensures, ap (λ x. number_at x.plan condition_count) c.self.view_is, c.loop-k-test.true)) (ap truth (sym c.row_value.ensures) ∙ sym c.is_true.ensures ∙ c.if-is_true.false)

pub returns : goal.returns
returns c =
    seeking-end _ _ _ c.loop-k.invariant (omega (arith, c.min-k-end.ensures, c.number_at.ensures, ap (λ x. number_at x.plan condition_count) c.self.view_is, c.loop-k-test.false))
