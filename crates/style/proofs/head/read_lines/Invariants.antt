use mathlib.Core.Path.{◌≡◌}
use Prim.Native.Nat.{◌+◌, ◌-◌}
use lib.ListN.{length}
use Rattle.style.proofs.Law.Loop.{Sofar}
use Rattle.style.proofs.head.read_lines.Given as goal

abbrev pub invariant-loop-at : goal.invariant-loop-at
invariant-loop-at l =
    Sofar l.head l.initial.room l.room l.names l.plan l.at l.line × (length l.room ≡ length l.initial.room)

abbrev pub decreases-loop-at : goal.decreases-loop-at
decreases-loop-at l =
    length l.head + 1 - l.at
