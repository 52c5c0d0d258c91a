use mathlib.Core.Path.{◌≡◌}
use mathlib.Core.List.{[]}
use Prim.Native.Nat.{ℕ, ◌+◌, ◌*◌, ◌-◌}
use Rattle.kind.specs.Choice.{held}
use Rattle.tree.specs.Node.{tree_at, most_commas, arguments_at}
use Rattle.checker.specs.Property.{set_at}
use Rattle.checker.specs.Kinds.{kinds_of_all}
use Rattle.checker.specs.Inner.{with_all}
use Rattle.checker.proofs.check.+all_kinds_kinds.Given as goal

-- The invariant: the arguments from the present one on bring the parts to what all of them make of none.
abbrev pub invariant-all_kinds-loop-comma : goal.invariant-all_kinds-loop-comma
invariant-all_kinds-loop-comma l =
    let look = λ (p n : ℕ). set_at l.plan n in
    let tree = tree_at l.allowance l.slots in
    with_all (held l.parts) (kinds_of_all look (arguments_at tree (most_commas - l.comma) l.slots l.at)) ≡ with_all [] (kinds_of_all look (arguments_at tree most_commas l.slots l.fn.at))

-- A call's arguments are as deep as a tree, and stand before it.
abbrev pub decreases-all_kinds : goal.decreases-all_kinds
decreases-all_kinds l = l.allowance * 2 + 1

abbrev pub decreases-kinds : goal.decreases-kinds
decreases-kinds l = l.allowance * 2
