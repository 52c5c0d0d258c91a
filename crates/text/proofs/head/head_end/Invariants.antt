use Prim.Native.Nat.{◌-◌}
use lib.ListN.{length}
use Rattle.text.proofs.Law.Heads.{On}
use Rattle.text.proofs.head.head_end.Given as goal

-- `head_end` goes from line to line. The invariant: the head ends where that of the lines from here on does.
abbrev pub invariant-loop-at : goal.invariant-loop-at
invariant-loop-at l =
    On l.input l.at

abbrev pub decreases-loop-at : goal.decreases-loop-at
decreases-loop-at l =
    length l.input - l.at
