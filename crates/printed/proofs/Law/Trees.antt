-- The printed tree at a place, by its node.
use mathlib.Core.Path.{◌≡◌, refl}
use mathlib.Core.Bool.{Bool}
use mathlib.Core.List.{List}
use Prim.Native.Nat.{ℕ, ◌-◌}
use Rattle.tree.specs.Tree.{Tree, Arguments}
use Rattle.tree.specs.Node.{node_at, arguments_at, grown, most_commas, tree_at}
use Rattle.tree.specs.declared.node.Node.{Node}
use Rattle.tree.specs.declared.node.Node.TheVariants.{Literal, Variable, Unary, Binary, Conditional, Bare, Call, Pick}
use Rattle.syntax.proofs.Law.Nodes.{tree-step}
use Rattle.printed.specs.Shown.{token_at, name_of, unary_of, binary_of, conditional_of, bare_of, call_of, pick_of, shown, shown_all}

-- the print of a node's tree, by those of the trees at its parts
abbrev pub shown_by : Bool → List ℕ → Node → ℕ → (ℕ → List ℕ) → (ℕ → List ℕ) → List ℕ
shown_by numbered text (Literal k) p tree arguments = token_at text p
shown_by numbered text (Variable n) p tree arguments = name_of numbered text p n
shown_by numbered text (Unary o e) p tree arguments = unary_of o (tree e)
shown_by numbered text (Binary o l r) p tree arguments = binary_of o (tree l) (tree r)
shown_by numbered text (Conditional q c a b) p tree arguments = conditional_of (tree c) (tree a) (tree b)
shown_by numbered text (Bare f) p tree arguments = bare_of f
shown_by numbered text (Call f xs) p tree arguments = call_of f (arguments xs)
shown_by numbered text (Pick i e) p tree arguments = pick_of i (tree e)

shown-grown : (numbered : Bool) (text : List ℕ) (n : Node) (p : ℕ) (tree : ℕ → Tree) (arguments : ℕ → Arguments) →
    shown numbered text (grown n p tree arguments) ≡ shown_by numbered text n p (λ q. shown numbered text (tree q)) (λ q. shown_all numbered text (arguments q))
unfolding shown
shown-grown numbered text (Literal k) p tree arguments = refl
shown-grown numbered text (Variable n) p tree arguments = refl
shown-grown numbered text (Unary o e) p tree arguments = refl
shown-grown numbered text (Binary o l r) p tree arguments = refl
shown-grown numbered text (Conditional q c a b) p tree arguments = refl
shown-grown numbered text (Bare f) p tree arguments = refl
shown-grown numbered text (Call f xs) p tree arguments = refl
shown-grown numbered text (Pick i e) p tree arguments = refl

pub shown-step : (numbered : Bool) (text w : List ℕ) (p h : ℕ) (n : Node) → (h ≡ 0 → ⊥) → n ≡ node_at w p →
    shown numbered text (tree_at h w p) ≡
    shown_by numbered text n p (λ q. shown numbered text (tree_at (h - 1) w q)) (λ q. shown_all numbered text (arguments_at (tree_at (h - 1) w) most_commas w q))
shown-step numbered text w p h n some e =
    rw (tree-step w p h n some e) (shown-grown numbered text n p (tree_at (h - 1) w) (arguments_at (tree_at (h - 1) w) most_commas w))
