use native.Mathlib.Omega.{arith}
use mathlib.Core.Path.{◌≡◌, sym, ◌∙◌}
use Rattle.syntax.specs.Names.{unknown_in}
use Rattle.syntax.proofs.Law.Nodes.{arguments-end, arguments-one}
use Rattle.syntax.proofs.names.+unknown.Goals as goal
use Rattle.syntax.proofs.names.+unknown.Goals.{unknown_among-in_default-via-in-Some+else-commas-gt0, unknown_among-in_default-via-in_default}

-- no comma is allowed, or none is there
pub unknown_among-returns-in_default : goal.unknown_among-returns-in_default
unfolding unknown_in
unknown_among-returns-in_default t c =
    elim c.in_default.branch [
      | unknown_among-in_default-via-in-Some+else-commas-gt0 w ↦ let none : c.args.commas ≡ 0 = omega (arith, w.if-commas-gt0.false) in rw arguments-end c.unknown-in_default.ensures
      | unknown_among-in_default-via-in_default w ↦ rw (arguments-one _ _ _ _ (sym c.argument_at.ensures ∙ w.in_default.is)) c.unknown-in_default.ensures
    ]
