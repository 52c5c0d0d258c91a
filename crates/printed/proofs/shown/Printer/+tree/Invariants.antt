use Prim.Native.Nat.{◌+◌, ◌*◌}
use Rattle.printed.proofs.shown.Printer.+tree.Given as goal

-- What each function prints is what its calls print, one behind the other; of a tree it is settled by the node at its place.
-- Each level of the allowance is worth more than the most commas, and a comma more than the tree at its argument.
abbrev pub decreases-arguments : goal.decreases-arguments
decreases-arguments l = l.allowance * 1100 + l.commas + 1

abbrev pub decreases-binary : goal.decreases-binary
decreases-binary l = l.allowance * 1100 + 1

abbrev pub decreases-call : goal.decreases-call
decreases-call l = l.allowance * 1100 + 1050

abbrev pub decreases-conditional : goal.decreases-conditional
decreases-conditional l = l.allowance * 1100 + 1

abbrev pub decreases-pick : goal.decreases-pick
decreases-pick l = l.allowance * 1100 + 1

abbrev pub decreases-tree : goal.decreases-tree
decreases-tree l = l.allowance * 1100

abbrev pub decreases-unary : goal.decreases-unary
decreases-unary l = l.allowance * 1100 + 1
