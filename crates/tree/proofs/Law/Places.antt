-- Where the nodes of a shape stand, and the length of the slots.
use mathlib.Core.Path.{◌≡◌, refl}
use mathlib.Core.List.{List}
use Prim.Native.Nat.{ℕ, ◌+◌, ◌<◌, ◌≤◌}
use native.Mathlib.Omega.{arith}
use lib.ListN.{length, length-set}
use Rattle.tree.specs.Tree.{Tree, literal, variable, unary, binary, conditional, bare, call, pick, place}
use Rattle.tree.specs.Slots.{Shape, leaf, held, before, between, after, root, lay, shape_of}
use Rattle.tree.specs.Fits.{Within}

pub within-le : {lo hi : ℕ} (s : Shape) → Within lo hi s → lo < hi
unfolding Within
within-le (leaf p tag) t = omega arith
within-le (held p tag n) t = omega arith
within-le (before p tag e) t = omega arith
within-le (between p tag l r) t = omega arith
within-le (after p tag e) t = omega arith

pub within_wider : {lo hi : ℕ} (lo' hi' : ℕ) (s : Shape) → lo' ≤ lo → hi ≤ hi' → Within lo hi s → Within lo' hi' s
unfolding Within
within_wider {lo = lo} {hi = hi} lo' hi' (leaf p tag) a b t = (omega arith, omega arith, t.2)
within_wider {lo = lo} {hi = hi} lo' hi' (held p tag n) a b t = (omega arith, omega arith, t.2, t.3)
within_wider {lo = lo} {hi = hi} lo' hi' (before p tag e) a b t = (omega arith, omega arith, t.2, within_wider {lo = p + 1} {hi = hi} (p + 1) hi' e (omega arith) b t.3)
within_wider {lo = lo} {hi = hi} lo' hi' (between p tag l r) a b t =
    (omega arith, omega arith, t.2, within_wider {lo = lo} {hi = p} lo' p l a (omega arith) t.3, within_wider {lo = p + 1} {hi = hi} (p + 1) hi' r (omega arith) b t.4)
within_wider {lo = lo} {hi = hi} lo' hi' (after p tag e) a b t = (omega arith, omega arith, t.2, within_wider {lo = lo} {hi = p} lo' p e a (omega arith) t.3)

pub root-within : (lo hi : ℕ) (s : Shape) → Within lo hi s → (lo ≤ root s) × (root s < hi)
unfolding Within
root-within lo hi (leaf p tag) t = omega arith
root-within lo hi (held p tag n) t = omega arith
root-within lo hi (before p tag e) t = omega arith
root-within lo hi (between p tag l r) t = omega arith
root-within lo hi (after p tag e) t = omega arith

pub root-shape : (e : Tree) → root (shape_of e) ≡ place e
root-shape (literal p k) = refl
root-shape (variable p n) = refl
root-shape (unary p o e) = refl
root-shape (binary p o l r) = refl
root-shape (conditional p q c a b) = refl
root-shape (bare p f) = refl
root-shape (call p f xs) = refl
root-shape (pick p i e) = refl

pub length-lay : (w : List ℕ) (s : Shape) → length (lay w s) ≡ length w
unfolding lay
length-lay w (leaf p tag) = simp length-set
length-lay w (held p tag n) = simp length-set
length-lay w (before p tag e) = simp (length-set, length-lay w e)
length-lay w (between p tag l r) = simp (length-set, length-lay (lay w l) r, length-lay w l)
length-lay w (after p tag e) = simp (length-set, length-lay w e)
