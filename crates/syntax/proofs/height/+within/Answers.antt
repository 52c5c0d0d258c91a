use native.Mathlib.Omega.{arith}
use mathlib.Core.Path.{◌≡◌, sym, ◌∙◌}
use Rattle.syntax.specs.Height.{height_of}
use Rattle.syntax.proofs.Law.Nodes.{arguments-end, arguments-one}
use Rattle.syntax.proofs.height.+within.Goals as goal
use Rattle.syntax.proofs.height.+within.Goals.{are_within-in_default-via-in-Some+else-commas-gt0, are_within-in_default-via-in_default}

-- no comma is allowed, or none is there
pub are_within-returns-in_default : goal.are_within-returns-in_default
unfolding height_of
are_within-returns-in_default t c =
    elim c.in_default.branch [
      | are_within-in_default-via-in-Some+else-commas-gt0 w ↦ let none : c.args.commas ≡ 0 = omega (arith, w.if-commas-gt0.false) in rw arguments-end c.is_within-in_default.ensures
      | are_within-in_default-via-in_default w ↦ rw (arguments-one _ _ _ _ (sym c.argument_at.ensures ∙ w.in_default.is)) c.is_within-in_default.ensures
    ]
