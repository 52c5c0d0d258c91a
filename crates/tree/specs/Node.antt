-- Reading a tree back from slots: a node by its slot, and from nodes the tree, as deep as an allowance goes.
use Rattle.std.specs.Prelude.{cond, List, ℕ, zero, suc, ◌-◌, eqb, ltb, Option, None, Some}
use Rattle.tree.specs.Tree.{number_form, Tree, literal, variable, unary, binary, conditional, bare, call, pick, Arguments, last, next}
use Rattle.tree.specs.Slots.{links, tag_at, link_at, left_at, variable_tag, first_function_tag, question_tag, comma_tag, first_pick_tag}
use Rattle.tree.specs.declared.node.Node.{Node}
use Rattle.tree.specs.declared.node.Node.TheVariants.{Literal, Variable, Unary, Binary, Conditional, Bare, Call, Pick}
use Rattle.tree.specs.declared.node.Comma.{Comma}

-- a node with a part after it, or none, by its tag and its link
unfoldable pub prefix_node : ℕ → ℕ → Node
prefix_node tag link =
    cond (ltb tag variable_tag) (Literal tag)
    (cond (eqb tag variable_tag) (Variable link)
    (cond (ltb tag first_function_tag) (Unary tag link)
    (cond (eqb link 0) (Bare (tag - first_function_tag)) (Call (tag - first_function_tag) link))))

-- a node with parts on both sides; `?` has the places of its branches at the `:`
unfoldable pub infix_node : List ℕ → ℕ → Node
infix_node w p =
    cond (eqb (tag_at w p) question_tag) (Conditional (link_at w p) (left_at w p) (left_at w (link_at w p)) (link_at w (link_at w p)))
    (Binary (tag_at w p - question_tag) (left_at w p) (link_at w p))

-- the node at a place
unfoldable pub node_at : List ℕ → ℕ → Node
unfolding prefix_node infix_node
node_at w p =
    cond (ltb (tag_at w p) question_tag) (prefix_node (tag_at w p) (link_at w p))
    (cond (ltb (tag_at w p) first_pick_tag) (infix_node w p)
    (Pick (tag_at w p - first_pick_tag) (link_at w p)))

-- the comma at a place of arguments, with one before it and the others after it; without one, the last stands there
unfoldable pub argument_at : List ℕ → ℕ → Option Comma
argument_at w p = cond (eqb (tag_at w p) comma_tag) (Some (record { first = left_at w p; rest = link_at w p })) None

-- the arguments at a place, n of them and one more at most, by the tree at each
abbrev pub argued : Option Comma → ℕ → (ℕ → Tree) → (ℕ → Arguments) → Arguments
argued None p tree rest = last (tree p)
argued (Some c) p tree rest = next (tree c.first) p (rest c.rest)

unfoldable pub arguments_at : (ℕ → Tree) → ℕ → List ℕ → ℕ → Arguments
unfolding argument_at
arguments_at tree zero w p = last (tree p)
arguments_at tree (suc n) w p = argued (argument_at w p) p tree (arguments_at tree n w)

-- a tree by its node, and by the trees and arguments at its parts
abbrev pub grown : Node → ℕ → (ℕ → Tree) → (ℕ → Arguments) → Tree
grown (Literal k) p tree arguments = literal p k
grown (Variable n) p tree arguments = variable p n
grown (Unary o e) p tree arguments = unary p o (tree e)
grown (Binary o l r) p tree arguments = binary p o (tree l) (tree r)
grown (Conditional q c a b) p tree arguments = conditional p q (tree c) (tree a) (tree b)
grown (Bare f) p tree arguments = bare p f
grown (Call f xs) p tree arguments = call p f (arguments xs)
grown (Pick i e) p tree arguments = pick p i (tree e)

-- a call has fewer commas than its expression has places
abbrev pub most_commas : ℕ
most_commas = links

-- The tree at a place, h nodes deep at most: what is deeper reads as a literal.
unfoldable pub tree_at : ℕ → List ℕ → ℕ → Tree
unfolding node_at arguments_at
tree_at zero w p = literal p number_form
tree_at (suc h) w p = grown (node_at w p) p (tree_at h w) (arguments_at (tree_at h w) most_commas w)
