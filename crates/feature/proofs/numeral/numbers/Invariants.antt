use lib.ListN.{length}
use Rattle.feature.proofs.Law.Numbers.{Sofar}
use Rattle.feature.proofs.numeral.numbers.Given as goal

-- `numbers` goes from part to part. The invariant: what is read already, and then the parts that are left, give the whole.
abbrev pub invariant-loop-part : goal.invariant-loop-part
invariant-loop-part l =
    Sofar l.text l.value (length l.yielded)
