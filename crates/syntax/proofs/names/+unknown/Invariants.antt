use Prim.Native.Nat.{◌+◌, ◌*◌}
use Rattle.syntax.proofs.names.+unknown.Given as goal

-- Each level of the allowance is worth more than the most commas, and a comma more than the tree at its argument.
abbrev pub decreases-unknown : goal.decreases-unknown
decreases-unknown l = l.allowance * 1026

abbrev pub decreases-unknown_among : goal.decreases-unknown_among
decreases-unknown_among l = l.allowance * 1026 + l.commas + 1
