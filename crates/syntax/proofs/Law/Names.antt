-- None names: the leftmost of several, and those of a tree by the node at its place.
use Rattle.std.specs.Prelude.{Option, Some, None}
use mathlib.Core.Path.{◌≡◌, refl}
use mathlib.Core.Bool.{Bool, true, false}
use mathlib.Core.List.{List, [], ◌∷◌, ◌++◌}
use Prim.Native.Nat.{ℕ, ◌+◌, ◌-◌, ◌≤◌}
use native.Mathlib.Omega.{arith}
use lib.Dec.{ltb}
use lib.ListN.{take, length-take, drop_of_length-le}
use borrow.Author.Tests.{ltb-true, ltb-false, lt-ltb, le-ltb}
use Rattle.lexer.specs.Token.{meaning, string_meaning}
use Rattle.colour.specs.Text.{colour_of}
use Rattle.tree.specs.Tree.{Tree, Arguments}
use Rattle.tree.specs.Node.{node_at, argument_at, argued, arguments_at, grown, most_commas, tree_at}
use Rattle.tree.specs.declared.node.Node.{Node}
use Rattle.tree.specs.declared.node.Node.TheVariants.{Literal, Variable, Unary, Binary, Conditional, Bare, Call, Pick}
use Rattle.tree.specs.declared.node.Comma.{Comma}
use Rattle.syntax.specs.Names.{unknown_function, unknown_literal, unknown_colour, unknown_member, unknown_call, first, unknown_in, unknown_in_all, lesser, leftmost_of}
use Rattle.syntax.specs.Inner.{earlier_of, first_in, first_at}
use Rattle.syntax.proofs.Law.Nodes.{tree-step, arguments-none, arguments-node}

-- ---- the leftmost

lesser-earlier : (p : ℕ) (a b : Option ℕ) → lesser p (earlier_of a b) ≡ earlier_of (lesser p a) b
lesser-earlier p None b = refl
lesser-earlier p (Some q) None = go (ltb q p) refl
  where
    go : (u : Bool) → ltb q p ≡ u → lesser p (Some q) ≡ earlier_of (lesser p (Some q)) None
    go true e = rw e
    go false e = rw e
lesser-earlier p (Some q) (Some r) = go (ltb r q) (ltb q p) refl refl
  where
    go : (u v : Bool) → ltb r q ≡ u → ltb q p ≡ v → lesser p (lesser q (Some r)) ≡ earlier_of (lesser p (Some q)) (Some r)
    go true true x y = simp (x, y, lt-ltb r p (omega (arith, ltb-true r q x, ltb-true q p y)))
    go true false x y = simp (x, y)
    go false true x y = simp (x, y)
    go false false x y = simp (x, y, le-ltb r p (omega (arith, ltb-false r q x, ltb-false q p y)))

pub leftmost-append : (xs ys : List ℕ) → leftmost_of (xs ++ ys) ≡ earlier_of (leftmost_of xs) (leftmost_of ys)
leftmost-append [] ys = refl
leftmost-append (p ∷ xs) ys = rw (leftmost-append xs ys) (lesser-earlier p (leftmost_of xs) (leftmost_of ys))

-- ---- a tree by its node

-- the leftmost unknown name in the tree of a node, by those in the trees at its parts
abbrev pub unknown_by : List ℕ → Node → ℕ → (ℕ → (Option ℕ)) → (ℕ → Arguments) → Option ℕ
unknown_by text (Literal k) p tree arguments = None
unknown_by text (Variable n) p tree arguments = None
unknown_by text (Unary o e) p tree arguments = tree e
unknown_by text (Binary o l r) p tree arguments = earlier_of (tree l) (tree r)
unknown_by text (Conditional q c a b) p tree arguments = earlier_of (tree c) (earlier_of (tree a) (tree b))
unknown_by text (Bare f) p tree arguments = leftmost_of (unknown_function p f)
unknown_by text (Call f xs) p tree arguments = earlier_of (leftmost_of (unknown_call text p f (first (arguments xs)))) (leftmost_of (unknown_in_all text (arguments xs)))
unknown_by text (Pick i e) p tree arguments = earlier_of (tree e) (leftmost_of (unknown_member text p i))

unknown-grown : (text : List ℕ) (n : Node) (p : ℕ) (tree : ℕ → Tree) (arguments : ℕ → Arguments) →
    leftmost_of (unknown_in text (grown n p tree arguments)) ≡ unknown_by text n p (λ q. leftmost_of (unknown_in text (tree q))) arguments
unfolding unknown_in
unknown-grown text (Literal k) p tree arguments = refl
unknown-grown text (Variable n) p tree arguments = refl
unknown-grown text (Unary o e) p tree arguments = refl
unknown-grown text (Binary o l r) p tree arguments = leftmost-append (unknown_in text (tree l)) (unknown_in text (tree r))
unknown-grown text (Conditional q c a b) p tree arguments = simp leftmost-append
unknown-grown text (Bare f) p tree arguments = refl
unknown-grown text (Call f xs) p tree arguments = leftmost-append (unknown_call text p f (first (arguments xs))) (unknown_in_all text (arguments xs))
unknown-grown text (Pick i e) p tree arguments = leftmost-append (unknown_in text (tree e)) (unknown_member text p i)

-- with nothing allowed there is no name, and else the leftmost is by the node
pub unknown-none : (text w : List ℕ) (p : ℕ) → leftmost_of (unknown_in text (tree_at 0 w p)) ≡ None
unfolding tree_at unknown_in
unknown-none text w p = refl

pub unknown-node : (text w : List ℕ) (p h : ℕ) → (h ≡ 0 → ⊥) → leftmost_of (unknown_in text (tree_at h w p)) ≡
    unknown_by text (node_at w p) p (λ q. leftmost_of (unknown_in text (tree_at (h - 1) w q))) (arguments_at (tree_at (h - 1) w) most_commas w)
unknown-node text w p h some = rw (tree-step w p h _ some refl) (unknown-grown text (node_at w p) p (tree_at (h - 1) w) (arguments_at (tree_at (h - 1) w) most_commas w))

-- by which the check proves the code
pub ruleset by_node = (unknown-none, unknown-node, arguments-none, arguments-node, leftmost-append)

-- ---- the first argument

first-argued : (a : Option Comma) (p : ℕ) (tree : ℕ → Tree) (rest : ℕ → Arguments) → first (argued a p tree rest) ≡ tree (first_in a p)
first-argued None p tree rest = refl
first-argued (Some c) p tree rest = refl

pub first_step : (tree : ℕ → Tree) (w : List ℕ) (p : ℕ) → first (arguments_at tree most_commas w p) ≡ tree (first_at w p)
unfolding arguments_at
first_step tree w p = first-argued (argument_at w p) p tree (arguments_at tree 1023 w)

-- ---- the first argument of a `color` that is no literal

abbrev pub colour_by : List ℕ → ℕ → ℕ → Node → List ℕ
colour_by text p q (Literal k) = unknown_literal text p q k
colour_by text p q (Variable n) = p ∷ []
colour_by text p q (Unary o e) = p ∷ []
colour_by text p q (Binary o l r) = p ∷ []
colour_by text p q (Conditional z c a b) = p ∷ []
colour_by text p q (Bare f) = p ∷ []
colour_by text p q (Call f xs) = p ∷ []
colour_by text p q (Pick i e) = p ∷ []

colour-grown : (text : List ℕ) (p : ℕ) (n : Node) (q : ℕ) (tree : ℕ → Tree) (arguments : ℕ → Arguments) →
    unknown_colour text p (grown n q tree arguments) ≡ colour_by text p q n
colour-grown text p (Literal k) q tree arguments = refl
colour-grown text p (Variable n) q tree arguments = refl
colour-grown text p (Unary o e) q tree arguments = refl
colour-grown text p (Binary o l r) q tree arguments = refl
colour-grown text p (Conditional z c a b) q tree arguments = refl
colour-grown text p (Bare f) q tree arguments = refl
colour-grown text p (Call f xs) q tree arguments = refl
colour-grown text p (Pick i e) q tree arguments = refl

pub colour-none : (text w : List ℕ) (p q : ℕ) → unknown_colour text p (tree_at 0 w q) ≡ p ∷ []
unfolding tree_at
colour-none text w p q = refl

pub colour-node : (text w : List ℕ) (p q h : ℕ) → (h ≡ 0 → ⊥) → unknown_colour text p (tree_at h w q) ≡ colour_by text p q (node_at w q)
colour-node text w p q h some = rw (tree-step w q h _ some refl) (colour-grown text p (node_at w q) q (tree_at (h - 1) w) (arguments_at (tree_at (h - 1) w) most_commas w))

pub colour-other : (text : List ℕ) (p q : ℕ) (n : Node) → ((k : ℕ) → n ≡ Literal k → ⊥) → colour_by text p q n ≡ p ∷ []
colour-other text p q (Literal k) h = absurd (h k refl)
colour-other text p q (Variable n) h = refl
colour-other text p q (Unary o e) h = refl
colour-other text p q (Binary o l r) h = refl
colour-other text p q (Conditional z c a b) h = refl
colour-other text p q (Bare f) h = refl
colour-other text p q (Call f xs) h = refl
colour-other text p q (Pick i e) h = refl

pub ruleset colours = (colour-none, colour-node, colour-other)

-- ---- a string that ends where it begins names no colour

pub unknown-string : (text : List ℕ) (at end : ℕ) → end ≤ at + 1 → colour_of (string_meaning text at end) ≡ None
unfolding meaning colour_of
unknown-string text at end h = rw (drop_of_length-le (take (end - 1) text) {i = at + 1} (omega (arith, length-take (end - 1) text)))
