use Rattle.std.proofs.Common.{◌*◌, ◌%◌, ◌^◌, ap, ◌∙◌, arith, mod-lt, mul-one}
use Rattle.number.proofs.Law.Units.{rest-twice}
use Rattle.number.proofs.units.reduced.Goals as goal

pub loop-init : goal.loop-init
loop-init c = rw (mul-one c.args.m)

pub overflow_mul-rest : goal.overflow_mul-rest
overflow_mul-rest c = omega (arith, c.loop.invariant, mod-lt (c.args.m * 2 ^ c.loop.counter) c.requires.positive)

pub loop-preserved : goal.loop-preserved
loop-preserved c = rest-twice _ _ _ _ c.loop.invariant

pub returns : goal.returns
returns c = c.loop.invariant ∙ ap (λ n. c.args.m * 2 ^ n % c.args.n) (omega arith)
