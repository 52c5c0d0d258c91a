use Rattle.std.proofs.Common.{◌≡◌}
use Rattle.number.specs.Decimal.{ten_to}
use Rattle.number.proofs.decimal.ten_to.Given as goal

-- `ten_to` multiplies k times by ten. The invariant: so far it is ten to the count.
abbrev pub invariant-loop : goal.invariant-loop
invariant-loop l = l.power ≡ ten_to l.counter
