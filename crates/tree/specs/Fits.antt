-- Which trees slots can hold, so that each is read back as it was written.
use Rattle.std.specs.Prelude.{ℕ, zero, suc, ◌+◌, ◌<◌, ◌≤◌}
use Rattle.tree.specs.Tree.{number_form, Tree, literal, variable, unary, binary, conditional, bare, call, pick, Arguments, last, next}
use Rattle.tree.specs.Slots.{tags, links, Shape, leaf, held, before, between, after}
use Rattle.tree.specs.Slots.{variable_tag, first_function_tag, function_tag, question_tag, colon_tag, operator_tag, comma_tag, pick_tag}

-- The places of the nodes rise from left to right, from lo up to hi, and the link of the slot at hi - 1 is no node's own: it is free for
-- the node that comes next.
unfoldable pub Within : ℕ → ℕ → Shape → Type 0
Within lo hi (leaf p tag) = (lo ≤ p) × (p < hi) × (tag < tags)
Within lo hi (held p tag n) = (lo ≤ p) × (p + 1 < hi) × (tag < tags) × (n < links)
Within lo hi (before p tag e) = (lo ≤ p) × (p + 1 < hi) × (tag < tags) × Within (p + 1) hi e
Within lo hi (between p tag l r) = (lo < p) × (p + 1 < hi) × (tag < tags) × Within lo p l × Within (p + 1) hi r
Within lo hi (after p tag e) = (lo < p) × (p + 1 < hi) × (tag < tags) × Within lo p e

-- every number of the tree has a tag of its own, in the order in which they stand in `Slots.antt`
unfoldable mutual
  pub Known : Tree → Type 0
  Known (literal p k) = k < variable_tag
  Known (variable p n) = Unit {0}
  Known (unary p o e) = (variable_tag < o) × (o < first_function_tag) × Known e
  Known (binary p o l r) = (colon_tag < operator_tag o) × (operator_tag o < comma_tag) × Known l × Known r
  Known (conditional p q c a b) = Known c × Known a × Known b
  Known (bare p f) = function_tag f < question_tag
  Known (call p f xs) = (function_tag f < question_tag) × KnownAll xs
  Known (pick p i e) = (pick_tag i < tags) × Known e

  pub KnownAll : Arguments → Type 0
  KnownAll (last e) = Known e
  KnownAll (next e q xs) = Known e × KnownAll xs

-- a tree as deep as an allowance goes, what is deeper being a literal
abbrev pub allowed : ℕ → ℕ → (ℕ → Tree) → Tree
allowed zero p grow = literal p number_form
allowed (suc h) p grow = grow h

unfoldable mutual
  pub pruned : Tree → ℕ → Tree
  pruned (literal p k) h = allowed h p (λ g. literal p k)
  pruned (variable p n) h = allowed h p (λ g. variable p n)
  pruned (unary p o e) h = allowed h p (λ g. unary p o (pruned e g))
  pruned (binary p o l r) h = allowed h p (λ g. binary p o (pruned l g) (pruned r g))
  pruned (conditional p q c a b) h = allowed h p (λ g. conditional p q (pruned c g) (pruned a g) (pruned b g))
  pruned (bare p f) h = allowed h p (λ g. bare p f)
  pruned (call p f xs) h = allowed h p (λ g. call p f (pruned_all xs g))
  pruned (pick p i e) h = allowed h p (λ g. pick p i (pruned e g))

  pub pruned_all : Arguments → ℕ → Arguments
  pruned_all (last e) h = last (pruned e h)
  pruned_all (next e q xs) h = next (pruned e h) q (pruned_all xs h)
