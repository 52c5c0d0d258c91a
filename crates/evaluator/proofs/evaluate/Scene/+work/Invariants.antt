use Prim.Native.Nat.{◌+◌, ◌*◌, ◌-◌, ◌≤◌}
use mathlib.Core.Path.{◌≡◌}
use mathlib.Core.List.{◌++◌, map}
use Rattle.arrayvec.specs.ArrayVec.{array_vec_len}
use Rattle.std.specs.Prelude.{Some}
use Rattle.tree.specs.Node.{most_commas}
use Rattle.evaluator.specs.Inner.{arguments_of}
use Rattle.evaluator.proofs.evaluate.Scene.+work.Given as goal

-- A part goes down a level of the allowance by way of one of the others.
abbrev pub decreases-binary : goal.decreases-binary
decreases-binary l = l.allowance * 2 + 1

abbrev pub decreases-call : goal.decreases-call
decreases-call l = l.allowance * 2 + 1

abbrev pub decreases-conditional : goal.decreases-conditional
decreases-conditional l = l.allowance * 2 + 1

abbrev pub decreases-single : goal.decreases-single
decreases-single l = l.allowance * 2 + 1

abbrev pub decreases-work : goal.decreases-work
decreases-work l = l.allowance * 2

-- The values so far, and then what is left, are what the arguments come to.
abbrev pub invariant-call-loop-first : goal.invariant-call-loop-first
invariant-call-loop-first l =
    (array_vec_len l.operands ≤ 4)
    × (arguments_of l.self l.allowance most_commas l.arguments
    ≡ map Some l.operands.items ++ arguments_of l.self l.allowance (most_commas - array_vec_len l.operands) l.at)

abbrev pub decreases-call-loop-first : goal.decreases-call-loop-first
decreases-call-loop-first l = 4 - array_vec_len l.operands
