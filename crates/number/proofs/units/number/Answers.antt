use Rattle.std.proofs.Common.{ap, ◌∙◌, true}
use lib.Ieee.{neg}
use Rattle.number.proofs.Law.Sign.{sign-round}
use Rattle.number.proofs.Law.Units.{product-units, whole-value}
use Rattle.number.proofs.units.number.Goals as goal

pub returns-then-negative : goal.returns-then-negative
returns-then-negative c =
    rw (c.if-negative.true)
    (ap neg (product-units _ c.unit.result c.args.digits c.args.place (whole-value c.args.digits c.requires.digits) c.unit.ensures) ∙ sign-round true _ _)

pub returns-else-negative : goal.returns-else-negative
returns-else-negative c =
    rw (c.if-negative.false) (product-units _ c.unit.result c.args.digits c.args.place (whole-value c.args.digits c.requires.digits) c.unit.ensures)
