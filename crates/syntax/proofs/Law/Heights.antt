-- Heights: of a tree by the node at its place, and of a tree that was pruned.
use mathlib.Core.Path.{◌≡◌, refl}
use mathlib.Core.Bool.{Bool, true, false, ◌&&◌}
use mathlib.Core.List.{List}
use Prim.Native.Nat.{ℕ, zero, suc, ◌-◌, ◌<◌, ◌≤◌, suc-le-suc, max}
use native.Mathlib.Nat.{le_of_suc-le-suc}
use native.Mathlib.Numerals.{sub-one}
use native.Mathlib.Omega.{arith}
use lib.Dec.{leb, leb-zero, leb-suc-suc}
use borrow.Author.Tests.{leb-true, leb-false, le-leb, lt-leb}
use Rattle.tree.specs.Tree.{Tree, literal, variable, unary, binary, conditional, bare, call, pick, Arguments, last, next}
use Rattle.tree.specs.Node.{node_at, arguments_at, grown, most_commas, tree_at}
use Rattle.tree.specs.declared.node.Node.{Node}
use Rattle.tree.specs.declared.node.Node.TheVariants.{Literal, Variable, Unary, Binary, Conditional, Bare, Call, Pick}
use Rattle.tree.specs.Fits.{allowed, pruned, pruned_all}
use Rattle.syntax.specs.Height.{height_of, height_of_all}
use Rattle.syntax.proofs.Law.Nodes.{tree-step, arguments-none, arguments-node}

-- ---- the greater of two

pub leb-max : (a b h : ℕ) → leb (max a b) h ≡ leb a h && leb b h
leb-max a b h = go (leb a h) (leb b h) refl refl
  where
    go : (u v : Bool) → leb a h ≡ u → leb b h ≡ v → leb (max a b) h ≡ u && v
    go true true x y = le-leb (max a b) h (omega (arith, leb-true a h x, leb-true b h y))
    go true false x y = lt-leb (max a b) h (omega (arith, leb-false b h y))
    go false v x y = lt-leb (max a b) h (omega (arith, leb-false a h x))

-- the greater of two stays above where each of them does
max-above : (a b c d h : ℕ) → (h < a → h < c) → (h < b → h < d) → h < max a b → h < max c d
max-above a b c d h left right above = go (leb a h) (leb b h) refl refl
  where
    go : (u v : Bool) → leb a h ≡ u → leb b h ≡ v → h < max c d
    go false v x y = omega (arith, left (leb-false a h x))
    go true false x y = omega (arith, right (leb-false b h y))
    go true true x y = absurd (omega (arith, leb-true a h x, leb-true b h y))

-- ---- a tree by its node

-- whether the tree of a node is within an allowance, by whether the parts are within one less
abbrev pub within_by : Node → (ℕ → Bool) → (ℕ → Bool) → Bool
within_by (Literal k) tree arguments = true
within_by (Variable n) tree arguments = true
within_by (Unary o e) tree arguments = tree e
within_by (Binary o l r) tree arguments = tree l && tree r
within_by (Conditional q c a b) tree arguments = tree c && (tree a && tree b)
within_by (Bare f) tree arguments = true
within_by (Call f xs) tree arguments = arguments xs
within_by (Pick i e) tree arguments = tree e

within_grown : (n : Node) (p h : ℕ) (tree : ℕ → Tree) (arguments : ℕ → Arguments) →
    leb (height_of (grown n p tree arguments)) (suc h) ≡ within_by n (λ q. leb (height_of (tree q)) h) (λ q. leb (height_of_all (arguments q)) h)
unfolding height_of
within_grown (Literal k) p h tree arguments = rw (leb-suc-suc, leb-zero)
within_grown (Variable n) p h tree arguments = rw (leb-suc-suc, leb-zero)
within_grown (Unary o e) p h tree arguments = rw leb-suc-suc
within_grown (Binary o l r) p h tree arguments = rw (leb-suc-suc, leb-max)
within_grown (Conditional q c a b) p h tree arguments = simp (leb-suc-suc, leb-max)
within_grown (Bare f) p h tree arguments = rw (leb-suc-suc, leb-zero)
within_grown (Call f xs) p h tree arguments = rw leb-suc-suc
within_grown (Pick i e) p h tree arguments = rw leb-suc-suc

-- with nothing allowed no tree is within, and else it is by its node
pub within-none : (w : List ℕ) (p : ℕ) → leb (height_of (tree_at 0 w p)) 0 ≡ false
unfolding tree_at height_of
within-none w p = refl

pub within-node : (w : List ℕ) (p h : ℕ) → (h ≡ 0 → ⊥) → leb (height_of (tree_at h w p)) h ≡
    within_by (node_at w p) (λ q. leb (height_of (tree_at (h - 1) w q)) (h - 1)) (λ q. leb (height_of_all (arguments_at (tree_at (h - 1) w) most_commas w q)) (h - 1))
within-node w p zero some = absurd (some refl)
within-node w p (suc h) some = rw (tree-step w p (suc h) _ some refl, sub-one (suc h)) (within_grown (node_at w p) p h (tree_at h w) (arguments_at (tree_at h w) most_commas w))

-- by which the check proves the code
pub ruleset by_node = (within-none, within-node, arguments-none, arguments-node, leb-max)

-- ---- a tree that was pruned

above : (e : Tree) → 0 < height_of e
unfolding height_of
above (literal p k) = omega arith
above (variable p n) = omega arith
above (unary p o e) = omega arith
above (binary p o l r) = omega arith
above (conditional p q c a b) = omega arith
above (bare p f) = omega arith
above (call p f xs) = omega arith
above (pick p i e) = omega arith

-- with nothing allowed no tree is low enough, and else it is as its parts are
allowed-low : (e : Tree) (p h : ℕ) (grow : ℕ → Tree) → height_of e ≤ h → ((g : ℕ) → height_of e ≤ suc g → grow g ≡ e) → allowed h p grow ≡ e
allowed-low e p zero grow low step = absurd (omega (arith, above e))
allowed-low e p (suc g) grow low step = step g low

mutual
  unfolding height_of pruned

  pub pruned-low : (e : Tree) (h : ℕ) → height_of e ≤ h → pruned e h ≡ e
  pruned-low (literal p k) h low = allowed-low (literal p k) p h _ low (λ g l. refl)
  pruned-low (variable p n) h low = allowed-low (variable p n) p h _ low (λ g l. refl)
  pruned-low (unary p o e) h low = allowed-low (unary p o e) p h _ low (λ g l. rw (pruned-low e g (omega arith)))
  pruned-low (binary p o l r) h low =
      allowed-low (binary p o l r) p h _ low (λ g m. rw (pruned-low l g (omega arith), pruned-low r g (omega arith)))
  pruned-low (conditional p q c a b) h low =
      allowed-low (conditional p q c a b) p h _ low (λ g l. rw (pruned-low c g (omega arith), pruned-low a g (omega arith), pruned-low b g (omega arith)))
  pruned-low (bare p f) h low = allowed-low (bare p f) p h _ low (λ g l. refl)
  pruned-low (call p f xs) h low = allowed-low (call p f xs) p h _ low (λ g l. rw (pruned-low-all xs g (omega arith)))
  pruned-low (pick p i e) h low = allowed-low (pick p i e) p h _ low (λ g l. rw (pruned-low e g (omega arith)))

  pruned-low-all : (xs : Arguments) (h : ℕ) → height_of_all xs ≤ h → pruned_all xs h ≡ xs
  pruned-low-all (last e) h low = rw (pruned-low e h low)
  pruned-low-all (next e q xs) h low = rw (pruned-low e h (omega arith), pruned-low-all xs h (omega arith))

-- with nothing allowed a literal is left, which is higher, and else it is as its parts are
allowed-high : (n p h : ℕ) (grow : ℕ → Tree) → h < n → ((g : ℕ) → suc g < n → suc g < height_of (grow g)) → h < height_of (allowed h p grow)
unfolding height_of
allowed-high n p zero grow high step = omega arith
allowed-high n p (suc g) grow high step = step g high

mutual
  unfolding height_of pruned

  pub pruned-high : (e : Tree) (h : ℕ) → h < height_of e → h < height_of (pruned e h)
  pruned-high (literal p k) h high = allowed-high _ p h _ high (λ g l. l)
  pruned-high (variable p n) h high = allowed-high _ p h _ high (λ g l. l)
  pruned-high (unary p o e) h high = allowed-high _ p h _ high (λ g l. suc-le-suc (pruned-high e g (le_of_suc-le-suc l)))
  pruned-high (binary p o l r) h high = allowed-high _ p h _ high (λ g m. suc-le-suc (max-above _ _ _ _ g (λ k. pruned-high l g k) (λ k. pruned-high r g k) (le_of_suc-le-suc m)))
  pruned-high (conditional p q c a b) h high =
      allowed-high _ p h _ high (λ g l.
      suc-le-suc (max-above _ _ _ _ g (λ k. pruned-high c g k) (λ k. max-above _ _ _ _ g (λ m. pruned-high a g m) (λ m. pruned-high b g m) k) (le_of_suc-le-suc l)))
  pruned-high (bare p f) h high = allowed-high _ p h _ high (λ g l. l)
  pruned-high (call p f xs) h high = allowed-high _ p h _ high (λ g l. suc-le-suc (pruned-high-all xs g (le_of_suc-le-suc l)))
  pruned-high (pick p i e) h high = allowed-high _ p h _ high (λ g l. suc-le-suc (pruned-high e g (le_of_suc-le-suc l)))

  pruned-high-all : (xs : Arguments) (h : ℕ) → h < height_of_all xs → h < height_of_all (pruned_all xs h)
  pruned-high-all (last e) h high = pruned-high e h high
  pruned-high-all (next e q xs) h high = max-above _ _ _ _ h (λ k. pruned-high e h k) (λ k. pruned-high-all xs h k) high
