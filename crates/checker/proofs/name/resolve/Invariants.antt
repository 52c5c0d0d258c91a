use Prim.Native.Nat.{◌-◌}
use lib.ListN.{length}
use Rattle.checker.specs.Name.{number_of}
use Rattle.checker.proofs.Law.Names.{Resolving}
use Rattle.checker.proofs.name.resolve.Given as goal

-- `resolve` goes from token to token. The invariant: the tokens from the present place on bring the slots to what all of them make of the first ones.
abbrev pub invariant-loop-token : goal.invariant-loop-token
invariant-loop-token l = Resolving (number_of l.scope l.head l.names) l.text l.initial.slots l.slots l.from

abbrev pub decreases-loop-token : goal.decreases-loop-token
decreases-loop-token l = length l.text - l.from
