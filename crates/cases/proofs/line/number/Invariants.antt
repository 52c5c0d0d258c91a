use Rattle.std.proofs.Common.{◌≡◌, ◌%◌, ◌^◌, ◌<◌, drop}
use lib.Seq.{slice}
use Rattle.cases.specs.Line.{with_digits, number_in}
use Rattle.cases.proofs.line.number.Given as goal

-- `number` takes in digit by digit. The invariant: the value fits, and with the digits that are left it is the whole number, as far as 64 bits go.
abbrev pub invariant-loop-b : goal.invariant-loop-b
invariant-loop-b l = (l.value < 2 ^ 64) × (with_digits l.value (drop l.b-index (slice l.from l.to l.line)) % 2 ^ 64 ≡ number_in l.line l.from l.to)
