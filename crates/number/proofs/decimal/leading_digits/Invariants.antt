use Rattle.std.proofs.Common.{◌≡◌, ◌+◌, length, drop}
use Rattle.number.specs.Decimal.{digits}
use Rattle.number.specs.Inner.{pushed_all}
use Rattle.number.proofs.decimal.leading_digits.Given as goal

-- The invariant: the digits so far and those from here on are all that the text begins with.
abbrev pub invariant-loop-b : goal.invariant-loop-b
invariant-loop-b l = record {
  index : l.read.count ≡ l.b-index;
  count : l.read.count + length (digits (drop l.b-index l.text)) ≡ length (digits l.text);
  value : pushed_all l.read.value (digits (drop l.b-index l.text)) ≡ pushed_all l.value (digits l.text);
}
