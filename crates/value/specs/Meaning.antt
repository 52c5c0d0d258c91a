-- What operators, functions and picks make of values: page 01, "Kinds and meaning". `text` gives the bytes of a string.
use Rattle.std.specs.Prelude.{Bool, not, cond, ◌&&◌, ◌||◌, List, map, ℕ, zero, suc, get_or, Float, Option, Some, None}
use Rattle.std.specs.List.{flat_map}
use Rattle.std.specs.Float.{binary64}
use Rattle.std.specs.Float.Ieee.{add, sub, mul}
use Rattle.number.specs.Arithmetic.{nought}
use Rattle.kind.specs.Kind.{eq_kind, dimension_of}
use Rattle.kind.specs.Operation.{index_of}
use Rattle.kind.specs.Rule.{rule_of}
use Rattle.kind.specs.declared.kind.Kind.{Kind}
use Rattle.kind.specs.declared.kind.Kind.TheVariants as kind
use Rattle.kind.specs.declared.operation.Logic.{Logic}
use Rattle.kind.specs.declared.operation.Logic.TheVariants.{Not, And, Or}
use Rattle.kind.specs.declared.operation.Equality.{Equality}
use Rattle.kind.specs.declared.operation.Equality.TheVariants.{Equal, NotEqual}
use Rattle.kind.specs.declared.operation.Constructor.{Constructor}
use Rattle.kind.specs.declared.operation.Constructor.TheVariants as make
use Rattle.kind.specs.declared.operation.Product.{Product}
use Rattle.kind.specs.declared.operation.Product.TheVariants.{Dot, Cross}
use Rattle.kind.specs.declared.operation.Operation.{Operation}
use Rattle.kind.specs.declared.operation.Operation.TheVariants as op
use Rattle.colour.specs.Colour.{rgb_of, rgba_of, of_bytes, with_alpha}
use Rattle.colour.specs.Text.{colour_of}
use Rattle.colour.specs.declared.colour.Colour.{Colour}
use Rattle.value.specs.Value.{kind_of, components_of, at, truth, span}
use Rattle.value.specs.Scalar.{unary_of, binary_of, ternary_of, order_of, test_of}
use Rattle.value.specs.Equality.{equal_of}
use Rattle.value.specs.declared.value.Span.{Span}
use Rattle.value.specs.declared.value.Value.{Value}
use Rattle.value.specs.declared.value.Value.TheVariants.{Undefined, Boolean, Number, Vec2, Vec3, Vec4}

-- ---- by component

-- the Number or vector of a kind, from its components; no operation that goes by component gives another kind
abbrev pub by_component : Kind → (ℕ → Float) → Value
by_component kind.Undefined g = Undefined
by_component kind.Null g = Undefined
by_component kind.Boolean g = Undefined
by_component kind.Number g = Number (g 0)
by_component kind.String g = Undefined
by_component kind.Vec2 g = Vec2 (g 0) (g 1)
by_component kind.Vec3 g = Vec3 (g 0) (g 1) (g 2)
by_component kind.Vec4 g = Vec4 (g 0) (g 1) (g 2) (g 3)

-- ---- truth values

abbrev pub logic_of : Logic → Value → Value → Bool
logic_of Not a b = not (truth a)
logic_of And a b = truth a && truth b
logic_of Or a b = truth a || truth b

-- "`!==` is its negation"
abbrev pub equality_of : (Span → List ℕ) → Equality → Value → Value → Bool
equality_of text Equal a b = equal_of text a b
equality_of text NotEqual a b = not (equal_of text a b)

-- ---- products

-- the sum of the numbers with indices below n, "added left to right"
abbrev pub sum_of : ℕ → (ℕ → Float) → Float
sum_of zero g = nought
sum_of (suc zero) g = g 0
sum_of (suc (suc n)) g = add binary64 (sum_of (suc n) g) (g (suc n))

unfoldable pub dot_of : Value → Value → Float
dot_of a b = sum_of (dimension_of (kind_of a)) (λ i. mul binary64 (at i a) (at i b))

-- p.j q.k - p.k q.j
unfoldable pub cross_at : Value → Value → ℕ → ℕ → Float
cross_at p q j k = sub binary64 (mul binary64 (at j p) (at k q)) (mul binary64 (at k p) (at j q))

-- "its x is p.y q.z - p.z q.y, its y and z likewise in cyclic turn"
abbrev pub product_of : Product → Value → Value → Value
product_of Dot a b = Number (dot_of a b)
product_of Cross p q = Vec3 (cross_at p q 1 2) (cross_at p q 2 0) (cross_at p q 0 1)

-- ---- constructors

-- an operand by its place; one that is not there is Undefined
abbrev pub operand : ℕ → List Value → Value
operand i vs = get_or vs i Undefined

-- The components of a vector's operands, one operand after the other. A vector takes as many as it needs, so that what a longer operand has
-- more is dropped; a Number alone stands at each (004, the list of constructors).
unfoldable pub joined_at : List Value → ℕ → Float
joined_at vs i = get_or (flat_map components_of vs) i (at 0 (operand 0 vs))

-- white: a text that names no colour is refused before (6)
abbrev pub white : Colour
white = of_bytes 255 255 255

abbrev pub or_white : Option Colour → Colour
or_white (Some c) = c
or_white None = white

-- with the alpha that is given, if one is
unfoldable pub alpha_or : Colour → Value → Colour
alpha_or c a = cond (eq_kind kind.Number (kind_of a)) (with_alpha c (at 0 a)) c

-- "`color()` is white; `color(text)`, `color(text, Number)`"
unfoldable pub color_of : (Span → List ℕ) → Value → Value → Colour
unfolding alpha_or
color_of text s a = cond (eq_kind kind.String (kind_of s)) (alpha_or (or_white (colour_of (text (span s)))) a) white

abbrev pub vec4_of : Colour → Value
vec4_of c = Vec4 c.red c.green c.blue c.alpha

abbrev pub constructed : (Span → List ℕ) → Constructor → List Value → Value
constructed text make.Vec2 vs = Vec2 (joined_at vs 0) (joined_at vs 1)
constructed text make.Vec3 vs = Vec3 (joined_at vs 0) (joined_at vs 1) (joined_at vs 2)
constructed text make.Vec4 vs = Vec4 (joined_at vs 0) (joined_at vs 1) (joined_at vs 2) (joined_at vs 3)
constructed text make.Rgb vs = vec4_of (rgb_of (at 0 (operand 0 vs)) (at 0 (operand 1 vs)) (at 0 (operand 2 vs)))
constructed text make.Rgba vs =
    vec4_of (rgba_of (at 0 (operand 0 vs)) (at 0 (operand 1 vs)) (at 0 (operand 2 vs)) (at 0 (operand 3 vs)))
constructed text make.Color vs = vec4_of (color_of text (operand 0 vs) (operand 1 vs))

-- ---- every operation

-- What an operation makes of operands that it takes, of the kind that its rule gives.
abbrev pub made_of : (Span → List ℕ) → Operation → Kind → List Value → Value
made_of text (op.Unary f) k vs = by_component k (λ i. unary_of f (at i (operand 0 vs)))
made_of text (op.Binary f) k vs = by_component k (λ i. binary_of f (at i (operand 0 vs)) (at i (operand 1 vs)))
made_of text (op.Ternary f) k vs =
    by_component k (λ i. ternary_of f (at i (operand 0 vs)) (at i (operand 1 vs)) (at i (operand 2 vs)))
made_of text (op.Logic f) k vs = Boolean (logic_of f (operand 0 vs) (operand 1 vs))
made_of text (op.Order f) k vs = Boolean (order_of f (at 0 (operand 0 vs)) (at 0 (operand 1 vs)))
made_of text (op.Equality f) k vs = Boolean (equality_of text f (operand 0 vs) (operand 1 vs))
made_of text (op.Test f) k vs = Boolean (test_of f (at 0 (operand 0 vs)))
made_of text (op.Constructor f) k vs = constructed text f vs
made_of text (op.Product f) k vs = product_of f (operand 0 vs) (operand 1 vs)
made_of text (op.Pick m) k vs = Number (at (index_of m) (operand 0 vs))

-- a fault, or the value that is made at the kind which the rule gives
abbrev pub outcome : Option Kind → (Kind → Value) → Option Value
outcome None made = None
outcome (Some k) made = Some (made k)

-- What an operation means on values, any count of them: a fault where the rule on their kinds faults, and else what it makes.
unfoldable pub meaning : (Span → List ℕ) → Operation → List Value → Option Value
meaning text o vs = outcome (rule_of o (map kind_of vs)) (λ k. made_of text o k vs)
