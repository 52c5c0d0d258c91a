use Rattle.std.proofs.Common.{List, ℕ, ◌+◌, ◌-◌, ◌≤◌}
use Rattle.syntax.specs.Inner.{Goes, Answer, steps, LevelBy, TailBy, PostfixBy, PicksBy}
use Rattle.syntax.proofs.parse.+levels.Given as goal

abbrev pub decreases-arguments : goal.decreases-arguments
decreases-arguments l = steps 13 l.text.now l.x

abbrev pub decreases-branches : goal.decreases-branches
decreases-branches l = steps 13 l.text.now l.x

abbrev pub decreases-call : goal.decreases-call
decreases-call l = steps 1 l.text.now l.x

abbrev pub decreases-expression : goal.decreases-expression
decreases-expression l = steps 12 l.text.now l.x

abbrev pub decreases-level : goal.decreases-level
decreases-level l = let k = l.k in steps (5 + k) l.text.now l.x

-- What the operators from here on give, the operand before the first gives with all of them.
abbrev pub invariant-level-loop-operator : goal.invariant-level-loop-operator
invariant-level-loop-operator l =
    let k = l.fn.k in
    (l.fn.x.at ≤ l.left.root) × Goes l.text l.left
    × ((v : List ℕ) (r : Answer) → TailBy (k - 1) l.text l.slots v l.left r → LevelBy k l.text l.fn.slots v l.fn.x r)

abbrev pub decreases-level-loop-operator : goal.decreases-level-loop-operator
decreases-level-loop-operator l = steps 1 l.text l.left.next

-- The same of picks.
abbrev pub invariant-postfix-loop-pick : goal.invariant-postfix-loop-pick
invariant-postfix-loop-pick l =
    Goes l.text l.part × ((v : List ℕ) (r : Answer) → PicksBy l.text l.slots v l.part r → PostfixBy l.text l.fn.slots v l.fn.x r)

abbrev pub decreases-postfix-loop-pick : goal.decreases-postfix-loop-pick
decreases-postfix-loop-pick l = steps 1 l.text l.part.next

abbrev pub decreases-postfix : goal.decreases-postfix
decreases-postfix l = steps 3 l.text.now l.x

abbrev pub decreases-primary : goal.decreases-primary
decreases-primary l = steps 2 l.text.now l.x

abbrev pub decreases-unary : goal.decreases-unary
decreases-unary l = steps 4 l.text.now l.x
