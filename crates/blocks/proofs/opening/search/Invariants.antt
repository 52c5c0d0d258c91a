use mathlib.Core.Path.{◌≡◌}
use Prim.Native.Nat.{◌+◌, ◌-◌}
use lib.ListN.{length}
use Rattle.blocks.specs.Opening.{search_of}
use Rattle.blocks.proofs.opening.search.Given as goal

abbrev pub invariant-loop-from : goal.invariant-loop-from
invariant-loop-from l =
    search_of l.window l.from ≡ search_of l.window l.at

abbrev pub decreases-loop-from : goal.decreases-loop-from
decreases-loop-from l =
    length l.window + 1 - l.at
