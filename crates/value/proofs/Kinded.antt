-- The kind of what an operation means is the one that its rule gives, and it is a fault exactly where the rule faults.
use Rattle.std.specs.Prelude.{Option, Some, None}
use mathlib.Core.Path.{◌≡◌, refl, ◌∙◌, ap}
use mathlib.Core.Bool.{Bool}
use mathlib.Core.List.{List, map}
use Prim.Native.Nat.{ℕ}
use lib.Dec.{T, ltb}
use lib.Ieee.{Float}
use Rattle.kind.specs.Kind.{eq_kind, dimension_of}
use Rattle.kind.specs.Rule.{rule_of}
use Rattle.kind.specs.declared.kind.Kind.{Kind}
use Rattle.kind.specs.declared.kind.Kind.TheVariants as kind
use Rattle.kind.specs.declared.operation.Constructor.{Constructor}
use Rattle.kind.specs.declared.operation.Constructor.TheVariants as make
use Rattle.kind.specs.declared.operation.Product.{Product}
use Rattle.kind.specs.declared.operation.Product.TheVariants.{Dot, Cross}
use Rattle.kind.specs.declared.operation.Operation.{Operation}
use Rattle.kind.specs.declared.operation.Operation.TheVariants as op
use Rattle.kind.proofs.Law.Choices.{kind-is}
use Rattle.kind.proofs.Law.Signatures.{every-result}
use Rattle.value.specs.Value.{kind_of}
use Rattle.value.specs.Meaning.{by_component, constructed, product_of, made_of, outcome, operand, meaning}
use Rattle.value.specs.declared.value.Span.{Span}
use Rattle.value.specs.declared.value.Value.{Value}

-- ---- what kinds an operation gives

abbrev made_by : Constructor → Kind
made_by make.Vec2 = kind.Vec2
made_by make.Vec3 = kind.Vec3
made_by make.Vec4 = kind.Vec4
made_by make.Rgb = kind.Vec4
made_by make.Rgba = kind.Vec4
made_by make.Color = kind.Vec4

abbrev product_kind : Product → Kind
product_kind Dot = kind.Number
product_kind Cross = kind.Vec3

-- Number or vector
abbrev numeric : Kind → Bool
numeric k = ltb 0 (dimension_of k)

abbrev result : Operation → Kind → Bool
result (op.Unary f) k = numeric k
result (op.Binary f) k = numeric k
result (op.Ternary f) k = numeric k
result (op.Logic f) k = eq_kind kind.Boolean k
result (op.Order f) k = eq_kind kind.Boolean k
result (op.Equality f) k = eq_kind kind.Boolean k
result (op.Test f) k = eq_kind kind.Boolean k
result (op.Constructor f) k = eq_kind (made_by f) k
result (op.Product f) k = eq_kind (product_kind f) k
result (op.Pick m) k = eq_kind kind.Number k

-- ---- and what kinds it makes

component-kind : (k : Kind) (g : ℕ → Float) → T (numeric k) → kind_of (by_component k g) ≡ k
component-kind kind.Undefined g h = absurd h
component-kind kind.Null g h = absurd h
component-kind kind.Boolean g h = absurd h
component-kind kind.Number g h = refl
component-kind kind.String g h = absurd h
component-kind kind.Vec2 g h = refl
component-kind kind.Vec3 g h = refl
component-kind kind.Vec4 g h = refl

constructed-kind : (text : Span → List ℕ) (f : Constructor) (vs : List Value) → kind_of (constructed text f vs) ≡ made_by f
constructed-kind text make.Vec2 vs = refl
constructed-kind text make.Vec3 vs = refl
constructed-kind text make.Vec4 vs = refl
constructed-kind text make.Rgb vs = refl
constructed-kind text make.Rgba vs = refl
constructed-kind text make.Color vs = refl

product-kind : (f : Product) (a b : Value) → kind_of (product_of f a b) ≡ product_kind f
product-kind Dot a b = refl
product-kind Cross a b = refl

made-kind : (text : Span → List ℕ) (o : Operation) (k : Kind) (vs : List Value) → T (result o k) → kind_of (made_of text o k vs) ≡ k
made-kind text (op.Unary f) k vs h = component-kind k _ h
made-kind text (op.Binary f) k vs h = component-kind k _ h
made-kind text (op.Ternary f) k vs h = component-kind k _ h
made-kind text (op.Logic f) k vs h = kind-is kind.Boolean k h
made-kind text (op.Order f) k vs h = kind-is kind.Boolean k h
made-kind text (op.Equality f) k vs h = kind-is kind.Boolean k h
made-kind text (op.Test f) k vs h = kind-is kind.Boolean k h
made-kind text (op.Constructor f) k vs h = constructed-kind text f vs ∙ kind-is (made_by f) k h
made-kind text (op.Product f) k vs h = product-kind f (operand 0 vs) (operand 1 vs) ∙ kind-is (product_kind f) k h
made-kind text (op.Pick m) k vs h = kind-is kind.Number k h

-- ---- the theorem

-- the kind of a value, or a fault
abbrev pub ruled : Option Value → Option Kind
ruled None = None
ruled (Some v) = Some (kind_of v)

pub kinded : (text : Span → List ℕ) (o : Operation) (vs : List Value) → ruled (meaning text o vs) ≡ rule_of o (map kind_of vs)
unfolding meaning
kinded text o vs = go (rule_of o (map kind_of vs)) (every-result result tt o (map kind_of vs))
  where
    go : (r : Option Kind) → ((k : Kind) → r ≡ Some k → T (result o k)) →
        ruled (outcome r (λ k. made_of text o k vs)) ≡ r
    go None h = refl
    go (Some k) h = ap Some (made-kind text o k vs (h k refl))
