use mathlib.Core.Path.{◌≡◌, sym, ap, ◌∙◌}
use native.Mathlib.Omega.{arith}
use Rattle.checker.specs.Inner.{row_below}
use Rattle.checker.proofs.Law.Names.{row-found, row-passed, row-behind}
use Rattle.checker.proofs.name.first_row.Goals as goal

pub returns-then-has_name : goal.returns-then-has_name
returns-then-has_name c =
    row-found _ _ _ c.loop-row-test.true (sym c.has_name.ensures ∙ c.if-has_name.true) ∙ ap (row_below c.args.to) c.loop-row.invariant

pub loop-row-preserved : goal.loop-row-preserved
loop-row-preserved c = row-passed _ _ _ c.loop-row-test.true (sym c.has_name.ensures ∙ c.if-has_name.false) ∙ c.loop-row.invariant

pub returns : goal.returns
returns c = let e : c.loop-row.row ≡ c.args.to = omega arith in row-behind _ _ _ e ∙ ap (row_below c.args.to) c.loop-row.invariant
