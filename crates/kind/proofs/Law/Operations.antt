-- A computed test of all operations.
use mathlib.Core.Bool.{Bool, true, ◌&&◌}
use mathlib.Core.List.{List, [], ◌∷◌}
use lib.Dec.{T}
use lib.Ieee.Fits.{and_l, and_r}
use Rattle.kind.specs.declared.operation.Unary.TheVariants.{Plus, Minus, Abs, Sign, Floor, Ceil, Round, Fract}
use Rattle.kind.specs.declared.operation.Binary.TheVariants.{Add, Subtract, Multiply, Divide, Remainder, Min, Max}
use Rattle.kind.specs.declared.operation.Ternary.TheVariants.{Clamp, Mix}
use Rattle.kind.specs.declared.operation.Logic.TheVariants.{Not, And, Or}
use Rattle.kind.specs.declared.operation.Order.TheVariants.{Less, LessEqual, Greater, GreaterEqual}
use Rattle.kind.specs.declared.operation.Equality.TheVariants.{Equal, NotEqual}
use Rattle.kind.specs.declared.operation.Test.TheVariants.{IsNan, IsFinite}
use Rattle.kind.specs.declared.operation.Constructor.TheVariants as make
use Rattle.kind.specs.declared.operation.Product.TheVariants.{Dot, Cross}
use Rattle.kind.specs.declared.operation.Member.TheVariants.{X, Y, Z, W}
use Rattle.kind.specs.declared.operation.Operation.{Operation}
use Rattle.kind.specs.declared.operation.Operation.TheVariants as op

abbrev pub operations : List Operation
operations =
    op.Unary Plus ∷ op.Unary Minus ∷ op.Unary Abs ∷ op.Unary Sign ∷ op.Unary Floor ∷ op.Unary Ceil ∷ op.Unary Round ∷ op.Unary Fract ∷
    op.Binary Add ∷ op.Binary Subtract ∷ op.Binary Multiply ∷ op.Binary Divide ∷ op.Binary Remainder ∷ op.Binary Min ∷ op.Binary Max ∷
    op.Ternary Clamp ∷ op.Ternary Mix ∷
    op.Logic Not ∷ op.Logic And ∷ op.Logic Or ∷
    op.Order Less ∷ op.Order LessEqual ∷ op.Order Greater ∷ op.Order GreaterEqual ∷
    op.Equality Equal ∷ op.Equality NotEqual ∷
    op.Test IsNan ∷ op.Test IsFinite ∷
    op.Constructor make.Vec2 ∷ op.Constructor make.Vec3 ∷ op.Constructor make.Vec4 ∷ op.Constructor make.Rgb ∷ op.Constructor make.Rgba ∷ op.Constructor make.Color ∷
    op.Product Dot ∷ op.Product Cross ∷
    op.Pick X ∷ op.Pick Y ∷ op.Pick Z ∷ op.Pick W ∷ []

abbrev pub every_operation : List Operation → (Operation → Bool) → Bool
every_operation [] p = true
every_operation (o ∷ os) p = p o && every_operation os p

abbrev Each : (Operation → Bool) → List Operation → Type 0
Each p [] = Unit
Each p (o ∷ os) = T (p o) × Each p os

each : (p : Operation → Bool) (os : List Operation) → T (every_operation os p) → Each p os
each p [] h = tt
each p (o ∷ os) h = (and_l (p o) (every_operation os p) h, each p os (and_r (p o) (every_operation os p) h))

-- what a test finds of each operation holds of any
pub every-operation : (p : Operation → Bool) → T (every_operation operations p) → (o : Operation) → T (p o)
every-operation p t o = go o (each p operations t)
  where
    go : (o : Operation) → Each p operations → T (p o)
    go (op.Unary Plus) h = h.0
    go (op.Unary Minus) h = h.1.0
    go (op.Unary Abs) h = h.1.1.0
    go (op.Unary Sign) h = h.1.1.1.0
    go (op.Unary Floor) h = h.1.1.1.1.0
    go (op.Unary Ceil) h = h.1.1.1.1.1.0
    go (op.Unary Round) h = h.1.1.1.1.1.1.0
    go (op.Unary Fract) h = h.1.1.1.1.1.1.1.0
    go (op.Binary Add) h = h.1.1.1.1.1.1.1.1.0
    go (op.Binary Subtract) h = h.1.1.1.1.1.1.1.1.1.0
    go (op.Binary Multiply) h = h.1.1.1.1.1.1.1.1.1.1.0
    go (op.Binary Divide) h = h.1.1.1.1.1.1.1.1.1.1.1.0
    go (op.Binary Remainder) h = h.1.1.1.1.1.1.1.1.1.1.1.1.0
    go (op.Binary Min) h = h.1.1.1.1.1.1.1.1.1.1.1.1.1.0
    go (op.Binary Max) h = h.1.1.1.1.1.1.1.1.1.1.1.1.1.1.0
    go (op.Ternary Clamp) h = h.1.1.1.1.1.1.1.1.1.1.1.1.1.1.1.0
    go (op.Ternary Mix) h = h.1.1.1.1.1.1.1.1.1.1.1.1.1.1.1.1.0
    go (op.Logic Not) h = h.1.1.1.1.1.1.1.1.1.1.1.1.1.1.1.1.1.0
    go (op.Logic And) h = h.1.1.1.1.1.1.1.1.1.1.1.1.1.1.1.1.1.1.0
    go (op.Logic Or) h = h.1.1.1.1.1.1.1.1.1.1.1.1.1.1.1.1.1.1.1.0
    go (op.Order Less) h = h.1.1.1.1.1.1.1.1.1.1.1.1.1.1.1.1.1.1.1.1.0
    go (op.Order LessEqual) h = h.1.1.1.1.1.1.1.1.1.1.1.1.1.1.1.1.1.1.1.1.1.0
    go (op.Order Greater) h = h.1.1.1.1.1.1.1.1.1.1.1.1.1.1.1.1.1.1.1.1.1.1.0
    go (op.Order GreaterEqual) h = h.1.1.1.1.1.1.1.1.1.1.1.1.1.1.1.1.1.1.1.1.1.1.1.0
    go (op.Equality Equal) h = h.1.1.1.1.1.1.1.1.1.1.1.1.1.1.1.1.1.1.1.1.1.1.1.1.0
    go (op.Equality NotEqual) h = h.1.1.1.1.1.1.1.1.1.1.1.1.1.1.1.1.1.1.1.1.1.1.1.1.1.0
    go (op.Test IsNan) h = h.1.1.1.1.1.1.1.1.1.1.1.1.1.1.1.1.1.1.1.1.1.1.1.1.1.1.0
    go (op.Test IsFinite) h = h.1.1.1.1.1.1.1.1.1.1.1.1.1.1.1.1.1.1.1.1.1.1.1.1.1.1.1.0
    go (op.Constructor make.Vec2) h = h.1.1.1.1.1.1.1.1.1.1.1.1.1.1.1.1.1.1.1.1.1.1.1.1.1.1.1.1.0
    go (op.Constructor make.Vec3) h = h.1.1.1.1.1.1.1.1.1.1.1.1.1.1.1.1.1.1.1.1.1.1.1.1.1.1.1.1.1.0
    go (op.Constructor make.Vec4) h = h.1.1.1.1.1.1.1.1.1.1.1.1.1.1.1.1.1.1.1.1.1.1.1.1.1.1.1.1.1.1.0
    go (op.Constructor make.Rgb) h = h.1.1.1.1.1.1.1.1.1.1.1.1.1.1.1.1.1.1.1.1.1.1.1.1.1.1.1.1.1.1.1.0
    go (op.Constructor make.Rgba) h = h.1.1.1.1.1.1.1.1.1.1.1.1.1.1.1.1.1.1.1.1.1.1.1.1.1.1.1.1.1.1.1.1.0
    go (op.Constructor make.Color) h = h.1.1.1.1.1.1.1.1.1.1.1.1.1.1.1.1.1.1.1.1.1.1.1.1.1.1.1.1.1.1.1.1.1.0
    go (op.Product Dot) h = h.1.1.1.1.1.1.1.1.1.1.1.1.1.1.1.1.1.1.1.1.1.1.1.1.1.1.1.1.1.1.1.1.1.1.0
    go (op.Product Cross) h = h.1.1.1.1.1.1.1.1.1.1.1.1.1.1.1.1.1.1.1.1.1.1.1.1.1.1.1.1.1.1.1.1.1.1.1.0
    go (op.Pick X) h = h.1.1.1.1.1.1.1.1.1.1.1.1.1.1.1.1.1.1.1.1.1.1.1.1.1.1.1.1.1.1.1.1.1.1.1.1.0
    go (op.Pick Y) h = h.1.1.1.1.1.1.1.1.1.1.1.1.1.1.1.1.1.1.1.1.1.1.1.1.1.1.1.1.1.1.1.1.1.1.1.1.1.0
    go (op.Pick Z) h = h.1.1.1.1.1.1.1.1.1.1.1.1.1.1.1.1.1.1.1.1.1.1.1.1.1.1.1.1.1.1.1.1.1.1.1.1.1.1.0
    go (op.Pick W) h = h.1.1.1.1.1.1.1.1.1.1.1.1.1.1.1.1.1.1.1.1.1.1.1.1.1.1.1.1.1.1.1.1.1.1.1.1.1.1.1.0
