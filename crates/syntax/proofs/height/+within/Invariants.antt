use Prim.Native.Nat.{◌+◌, ◌*◌}
use Rattle.syntax.proofs.height.+within.Given as goal

-- Each level of the allowance is worth more than the most commas, and a comma more than the tree at its argument.
abbrev pub decreases-are_within : goal.decreases-are_within
decreases-are_within l = l.allowance * 1026 + l.commas + 1

abbrev pub decreases-is_within : goal.decreases-is_within
decreases-is_within l = l.allowance * 1026
