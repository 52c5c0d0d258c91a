-- Which component a member is: page 01, "Tokens and grammar" ("Members are x y z w and r g b a").
use Rattle.std.specs.Prelude.{ℕ}
use Rattle.kind.specs.declared.operation.Member.{Member}
use Rattle.kind.specs.declared.operation.Member.TheVariants.{X, Y, Z, W}

abbrev pub index_of : Member → ℕ
index_of X = 0
index_of Y = 1
index_of Z = 2
index_of W = 3
