use Rattle.std.proofs.Common.{◌≡◌, get_or, drop}
use Rattle.std.specs.List.{flat_map}
use Rattle.value.specs.Value.{components_of, at}
use Rattle.value.specs.Meaning.{operand, joined_at}
use Rattle.value.proofs.operands.joined_at.Given as goal

-- What is left of the place is one in the operands that are left.
abbrev pub invariant-loop-v : goal.invariant-loop-v
invariant-loop-v l = get_or (flat_map components_of (drop l.v-index l.operands)) l.rest (at 0 (operand 0 l.operands)) ≡ joined_at l.operands l.i
