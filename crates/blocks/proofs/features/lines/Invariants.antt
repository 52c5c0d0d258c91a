use Prim.Native.Nat.{◌+◌, ◌-◌}
use lib.ListN.{length}
use Rattle.text.specs.Parts.{end_from}
use Rattle.blocks.proofs.Law.Printing.{Sofar}
use Rattle.blocks.proofs.features.lines.Given as goal

abbrev pub invariant-loop-values : goal.invariant-loop-values
invariant-loop-values l =
    Sofar l.head l.plan l.room l.block l.ends l.first l.initial.out l.out l.values l.at (end_from 10 l.block l.at) l.number l.printed

abbrev pub decreases-loop-values : goal.decreases-loop-values
decreases-loop-values l =
    length l.block + 1 - l.at
