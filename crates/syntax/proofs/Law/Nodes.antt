-- One step of reading a tree from slots: by the node at its place, and for arguments by what stands there.
use Rattle.std.specs.Prelude.{Option, None}
use mathlib.Core.Path.{◌≡◌, refl}
use mathlib.Core.List.{List}
use Prim.Native.Nat.{ℕ, zero, suc, ◌-◌}
use native.Mathlib.Numerals.{sub-one}
use Rattle.tree.specs.Tree.{Tree, last}
use Rattle.tree.specs.Node.{node_at, argument_at, argued, arguments_at, grown, most_commas, tree_at}
use Rattle.tree.specs.declared.node.Node.{Node}
use Rattle.tree.specs.declared.node.Comma.{Comma}

pub tree-step : (w : List ℕ) (p h : ℕ) (n : Node) → (h ≡ 0 → ⊥) → n ≡ node_at w p →
    tree_at h w p ≡ grown n p (tree_at (h - 1) w) (arguments_at (tree_at (h - 1) w) most_commas w)
unfolding tree_at
tree-step w p zero n some e = absurd (some refl)
tree-step w p (suc h) n some e = rw (sub-one (suc h), e)

pub arguments-end : (tree : ℕ → Tree) (w : List ℕ) (p n : ℕ) → n ≡ 0 → arguments_at tree n w p ≡ last (tree p)
unfolding arguments_at
arguments-end tree w p n e = rw e

pub arguments-step : (tree : ℕ → Tree) (w : List ℕ) (p n : ℕ) (a : Option Comma) → (n ≡ 0 → ⊥) → a ≡ argument_at w p →
    arguments_at tree n w p ≡ argued a p tree (arguments_at tree (n - 1) w)
unfolding arguments_at
arguments-step tree w p zero a some e = absurd (some refl)
arguments-step tree w p (suc n) a some e = rw (sub-one (suc n), e)

pub arguments-node : (tree : ℕ → Tree) (w : List ℕ) (p n : ℕ) → (n ≡ 0 → ⊥) → arguments_at tree n w p ≡ argued (argument_at w p) p tree (arguments_at tree (n - 1) w)
arguments-node tree w p n some = arguments-step tree w p n (argument_at w p) some refl

pub arguments-none : (tree : ℕ → Tree) (w : List ℕ) (p : ℕ) → arguments_at tree 0 w p ≡ last (tree p)
arguments-none tree w p = arguments-end tree w p 0 refl

-- without a comma there is one, however many commas are allowed
pub arguments-one : (tree : ℕ → Tree) (w : List ℕ) (p n : ℕ) → argument_at w p ≡ None → arguments_at tree n w p ≡ last (tree p)
unfolding arguments_at
arguments-one tree w p zero e = refl
arguments-one tree w p (suc n) e = rw e
