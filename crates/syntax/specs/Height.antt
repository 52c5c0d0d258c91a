-- The height of a tree: page 01, "Sizes". "a leaf has height 1; brackets add none"; a call has one more than its highest argument.
use Rattle.std.specs.Prelude.{ℕ, suc, max}
use Rattle.tree.specs.Tree.{Tree, literal, variable, unary, binary, conditional, bare, call, pick, Arguments, last, next}

unfoldable mutual
  pub height_of : Tree → ℕ
  height_of (literal p k) = 1
  height_of (variable p n) = 1
  height_of (unary p o e) = suc (height_of e)
  height_of (binary p o l r) = suc (max (height_of l) (height_of r))
  height_of (conditional p q c a b) = suc (max (height_of c) (max (height_of a) (height_of b)))
  height_of (bare p f) = 1
  height_of (call p f xs) = suc (height_of_all xs)
  height_of (pick p i e) = suc (height_of e)

  pub height_of_all : Arguments → ℕ
  height_of_all (last e) = height_of e
  height_of_all (next e q xs) = max (height_of e) (height_of_all xs)
