-- What every operator, function and pick takes and gives: page 01, "Kinds and meaning", and for the constructors 004's list. An operation
-- is given by its signatures, as 004 lists them: the kinds of its operands, in order, and the kind of its result.
use Rattle.std.specs.Prelude.{Bool, true, false, ◌&&◌, List, [], ◌∷◌, map, ◌++◌, ℕ, leb, Option, Some, None}
use Rattle.kind.specs.Kind.{kinds, eq_kind, dimension_of}
use Rattle.kind.specs.Operation.{index_of}
use Rattle.kind.specs.declared.kind.Kind.{Kind}
use Rattle.kind.specs.declared.kind.Kind.TheVariants.{Boolean, Number, String, Vec2, Vec3, Vec4}
use Rattle.kind.specs.declared.operation.Binary.{Binary}
use Rattle.kind.specs.declared.operation.Binary.TheVariants.{Add, Subtract, Multiply, Divide, Remainder, Min, Max}
use Rattle.kind.specs.declared.operation.Ternary.{Ternary}
use Rattle.kind.specs.declared.operation.Ternary.TheVariants.{Clamp, Mix}
use Rattle.kind.specs.declared.operation.Logic.{Logic}
use Rattle.kind.specs.declared.operation.Logic.TheVariants.{Not, And, Or}
use Rattle.kind.specs.declared.operation.Constructor.{Constructor}
use Rattle.kind.specs.declared.operation.Constructor.TheVariants as make
use Rattle.kind.specs.declared.operation.Product.{Product}
use Rattle.kind.specs.declared.operation.Product.TheVariants.{Dot, Cross}
use Rattle.kind.specs.declared.operation.Operation.{Operation}
use Rattle.kind.specs.declared.operation.Operation.TheVariants as op

infixr 4 ◌⇒◌
-- the kinds of the operands, and the kind of the result
pub data Signature : Type 0 where
  ◌⇒◌ : List Kind → Kind → Signature

-- ---- signatures that several operations share

abbrev pub vectors : List Kind
vectors = Vec2 ∷ Vec3 ∷ Vec4 ∷ []

abbrev pub numerics : List Kind
numerics = Number ∷ vectors

-- "Number, vectors"; "Number or vector"
abbrev pub one : List Signature
one = map (λ k. (k ∷ []) ⇒ k) numerics

-- "two Numbers, or two vectors of one kind"
abbrev pub alike : List Signature
alike = map (λ k. (k ∷ k ∷ []) ⇒ k) numerics

-- "vector then Number"; "Number in place of a vector as second"
abbrev pub number_second : List Signature
number_second = map (λ k. (k ∷ Number ∷ []) ⇒ k) vectors

abbrev pub number_first : List Signature
number_first = map (λ k. (Number ∷ k ∷ []) ⇒ k) vectors

-- "all of one kind, Number or vector"
abbrev pub all_alike : List Signature
all_alike = map (λ k. (k ∷ k ∷ k ∷ []) ⇒ k) numerics

-- two of any kinds
abbrev pub any_two : List Kind → Kind → List Signature
any_two [] r = []
any_two (k ∷ ks) r = map (λ l. (k ∷ l ∷ []) ⇒ r) kinds ++ any_two ks r

-- the vectors that have a component with an index
abbrev pub having : ℕ → List Kind → List Kind
having i [] = []
having i (k ∷ ks) = elim (leb (dimension_of k) i) [ true ↦ having i ks | false ↦ k ∷ having i ks ]

-- ---- the signatures of each operation

-- "`+ - * / %`: two Numbers, or two vectors of one kind, by component. `*` also takes vector and Number in either order, `/` vector then
-- Number."
-- "`min`, `max` ..: all of one kind, Number or vector, or Number in place of a vector as second of `min` or `max`"
abbrev pub of_binary : Binary → List Signature
of_binary Add = alike
of_binary Subtract = alike
of_binary Multiply = alike ++ number_second ++ number_first
of_binary Divide = alike ++ number_second
of_binary Remainder = alike
of_binary Min = alike ++ number_second
of_binary Max = alike ++ number_second

-- "or Number in place of a vector .. as both bounds of `clamp`, as last of `mix`"
abbrev pub of_ternary : Ternary → List Signature
of_ternary Clamp = all_alike ++ map (λ k. (k ∷ Number ∷ Number ∷ []) ⇒ k) vectors
of_ternary Mix = all_alike ++ map (λ k. (k ∷ k ∷ Number ∷ []) ⇒ k) vectors

-- "`!`, `&&`, `||` ..: Boolean"
abbrev pub of_logic : Logic → List Signature
of_logic Not = ((Boolean ∷ []) ⇒ Boolean) ∷ []
of_logic And = ((Boolean ∷ Boolean ∷ []) ⇒ Boolean) ∷ []
of_logic Or = ((Boolean ∷ Boolean ∷ []) ⇒ Boolean) ∷ []

-- "`vec2`, `vec3`, `vec4`: the constructors of 004. `rgb`, `rgba`: Numbers .. `color()` ..; `color(text)`, `color(text, Number)`"
abbrev pub of_constructor : Constructor → List Signature
of_constructor make.Vec2 =
    ((Number ∷ []) ⇒ Vec2)
    ∷ ((Number ∷ Number ∷ []) ⇒ Vec2)
    ∷ ((Vec2 ∷ []) ⇒ Vec2)
    ∷ ((Vec3 ∷ []) ⇒ Vec2)
    ∷ ((Vec4 ∷ []) ⇒ Vec2)
    ∷ []
of_constructor make.Vec3 =
    ((Number ∷ []) ⇒ Vec3)
    ∷ ((Number ∷ Number ∷ Number ∷ []) ⇒ Vec3)
    ∷ ((Vec3 ∷ []) ⇒ Vec3)
    ∷ ((Vec4 ∷ []) ⇒ Vec3)
    ∷ ((Vec2 ∷ Number ∷ []) ⇒ Vec3)
    ∷ ((Number ∷ Vec2 ∷ []) ⇒ Vec3)
    ∷ []
of_constructor make.Vec4 =
    ((Number ∷ []) ⇒ Vec4)
    ∷ ((Number ∷ Number ∷ Number ∷ Number ∷ []) ⇒ Vec4)
    ∷ ((Vec4 ∷ []) ⇒ Vec4)
    ∷ ((Vec2 ∷ Number ∷ Number ∷ []) ⇒ Vec4)
    ∷ ((Number ∷ Vec2 ∷ Number ∷ []) ⇒ Vec4)
    ∷ ((Number ∷ Number ∷ Vec2 ∷ []) ⇒ Vec4)
    ∷ ((Vec3 ∷ Number ∷ []) ⇒ Vec4)
    ∷ ((Number ∷ Vec3 ∷ []) ⇒ Vec4)
    ∷ []
of_constructor make.Rgb = ((Number ∷ Number ∷ Number ∷ []) ⇒ Vec4) ∷ []
of_constructor make.Rgba = ((Number ∷ Number ∷ Number ∷ Number ∷ []) ⇒ Vec4) ∷ []
of_constructor make.Color = ([] ⇒ Vec4) ∷ ((String ∷ []) ⇒ Vec4) ∷ ((String ∷ Number ∷ []) ⇒ Vec4) ∷ []

-- "`dot` of two Numbers or two vectors of one kind gives a Number"; "`cross` takes two vec3"
abbrev pub of_product : Product → List Signature
of_product Dot = map (λ k. (k ∷ k ∷ []) ⇒ Number) numerics
of_product Cross = ((Vec3 ∷ Vec3 ∷ []) ⇒ Vec3) ∷ []

-- the rest: "Unary `+ -`: Number, vectors", "`abs sign floor ceil round fract`: Number or vector"; "`< <= > >=`: two Numbers"; "`===` takes
-- all kinds", and "`!==` is its negation"; "`isNaN`, `isFinite`: Number"; a pick takes the vectors that have its component ("`.z` of a
-- vec2" is a fault)
abbrev pub signatures : Operation → List Signature
signatures (op.Unary f) = one
signatures (op.Binary f) = of_binary f
signatures (op.Ternary f) = of_ternary f
signatures (op.Logic f) = of_logic f
signatures (op.Order f) = ((Number ∷ Number ∷ []) ⇒ Boolean) ∷ []
signatures (op.Equality f) = any_two kinds Boolean
signatures (op.Test f) = ((Number ∷ []) ⇒ Boolean) ∷ []
signatures (op.Constructor f) = of_constructor f
signatures (op.Product f) = of_product f
signatures (op.Pick m) = map (λ k. (k ∷ []) ⇒ Number) (having (index_of m) vectors)

-- ---- the rule

-- whether two lists of kinds are the same
abbrev pub same_kinds : List Kind → List Kind → Bool
same_kinds [] [] = true
same_kinds [] (l ∷ ls) = false
same_kinds (k ∷ ks) [] = false
same_kinds (k ∷ ks) (l ∷ ls) = same_kinds ks ls && eq_kind k l

-- what the signature for these operands gives; "Any other operand, argument count or pick .. is a fault."
abbrev pub ruled_by : List Signature → List Kind → Option Kind
ruled_by [] ks = None
ruled_by ((ls ⇒ r) ∷ ss) ks = elim (same_kinds ls ks) [ true ↦ Some r | false ↦ ruled_by ss ks ]

-- The kind that an operation gives for operands of these kinds, any count of them, or a fault.
unfoldable pub rule_of : Operation → List Kind → Option Kind
rule_of o ks = ruled_by (signatures o) ks
