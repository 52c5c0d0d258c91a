-- The names of functions and members: page 01, "Kinds and meaning" and "Tokens and grammar".
use Rattle.std.specs.Prelude.{cond, List, [], ◌∷◌, map, ℕ, ◌%◌, ltb, length, drop, Option, Some, None}
use Rattle.lexer.specs.Bytes.{place_in, ascii}
use Rattle.kind.specs.declared.operation.Unary.TheVariants.{Abs, Sign, Floor, Ceil, Round, Fract}
use Rattle.kind.specs.declared.operation.Binary.TheVariants.{Min, Max}
use Rattle.kind.specs.declared.operation.Ternary.TheVariants.{Clamp, Mix}
use Rattle.kind.specs.declared.operation.Test.TheVariants.{IsNan, IsFinite}
use Rattle.kind.specs.declared.operation.Constructor.TheVariants as make
use Rattle.kind.specs.declared.operation.Product.TheVariants.{Dot, Cross}
use Rattle.kind.specs.declared.operation.Member.TheVariants.{X, Y, Z, W}
use Rattle.kind.specs.declared.operation.Operation.{Operation}
use Rattle.kind.specs.declared.operation.Operation.TheVariants as op

-- a function's name and what it is
pub data Function : Type 0 where
  function : List ℕ → Operation → Function

-- in the order of page 01; the number of a function is its place here
abbrev pub functions : List Function
functions =
    function (ascii "vec2") (op.Constructor make.Vec2)
    ∷ function (ascii "vec3") (op.Constructor make.Vec3)
    ∷ function (ascii "vec4") (op.Constructor make.Vec4)
    ∷ function (ascii "rgb") (op.Constructor make.Rgb)
    ∷ function (ascii "rgba") (op.Constructor make.Rgba)
    ∷ function (ascii "color") (op.Constructor make.Color)
    ∷ function (ascii "isNaN") (op.Test IsNan)
    ∷ function (ascii "isFinite") (op.Test IsFinite)
    ∷ function (ascii "abs") (op.Unary Abs)
    ∷ function (ascii "sign") (op.Unary Sign)
    ∷ function (ascii "floor") (op.Unary Floor)
    ∷ function (ascii "ceil") (op.Unary Ceil)
    ∷ function (ascii "round") (op.Unary Round)
    ∷ function (ascii "fract") (op.Unary Fract)
    ∷ function (ascii "min") (op.Binary Min)
    ∷ function (ascii "max") (op.Binary Max)
    ∷ function (ascii "clamp") (op.Ternary Clamp)
    ∷ function (ascii "mix") (op.Ternary Mix)
    ∷ function (ascii "dot") (op.Product Dot)
    ∷ function (ascii "cross") (op.Product Cross)
    ∷ []

abbrev pub name : Function → List ℕ
name (function w o) = w

abbrev pub function_names : List (List ℕ)
function_names = map name functions

abbrev pub operation : Function → Operation
operation (function w o) = o

abbrev pub first : List Operation → Option Operation
first [] = None
first (o ∷ os) = Some o

-- by a function's number
unfoldable pub function_at : ℕ → Option Operation
function_at n = first (drop n (map operation functions))

-- "Members are x y z w and r g b a."
abbrev pub member_names : List (List ℕ)
member_names = ascii "x" ∷ ascii "y" ∷ ascii "z" ∷ ascii "w" ∷ ascii "r" ∷ ascii "g" ∷ ascii "b" ∷ ascii "a" ∷ []

-- x y z w
abbrev pub components : ℕ
components = 4

-- the index of the component that a member picks; for what is no member the first number behind these
unfoldable pub member_index : List ℕ → ℕ
member_index w = cond (ltb (place_in member_names w) (length member_names)) (place_in member_names w % components) components

-- by the index of a component, "`[0]` to `[3]`"
unfoldable pub pick_at : ℕ → Option Operation
pick_at i = first (drop i (op.Pick X ∷ op.Pick Y ∷ op.Pick Z ∷ op.Pick W ∷ []))
