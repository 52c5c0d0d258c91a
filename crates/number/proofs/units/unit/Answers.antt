use Rattle.std.proofs.Common.{sym, subst, ◌∙◌, ap, false}
use lib.Ieee.{Float, of_bits, binary64}
use Rattle.number.specs.Units.{HasUnits}
use Rattle.number.proofs.Law.Units.{small-power, large-power}
use Rattle.number.proofs.units.unit.Goals as goal

pub returns-then-place-lt-LEAST : goal.returns-then-place-lt-LEAST
returns-then-place-lt-LEAST c =
    subst (λ (x : Float). HasUnits x false 1 c.args.place) (sym (c.from_bits.ensures ∙ ap (of_bits binary64) c.power.ensures))
    (small-power c.args.place c.if-place-lt-LEAST.true)

pub returns-else-place-lt-LEAST : goal.returns-else-place-lt-LEAST
returns-else-place-lt-LEAST c =
    subst (λ (x : Float). HasUnits x false 1 c.args.place) (sym c.from_bits-else-place-lt-LEAST.ensures)
    (large-power c.args.place c.if-place-lt-LEAST.false c.requires)
