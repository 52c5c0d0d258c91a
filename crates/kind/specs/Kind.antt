-- The eight kinds: page 01, "Kinds and meaning". Kind is page 01's term for the dynamic type of a value.
use Rattle.std.specs.Prelude.{Bool, List, [], ◌∷◌, ℕ, eqb}
use Rattle.kind.specs.declared.kind.Kind.{Kind}
use Rattle.kind.specs.declared.kind.Kind.TheVariants.{Undefined, Null, Boolean, Number, String, Vec2, Vec3, Vec4}

-- "A value is of one of eight kinds: Undefined, Null, Boolean, Number, String, vec2, vec3, vec4."
abbrev pub kinds : List Kind
kinds = Undefined ∷ Null ∷ Boolean ∷ Number ∷ String ∷ Vec2 ∷ Vec3 ∷ Vec4 ∷ []

-- the place of a kind in that list
abbrev pub number_of : Kind → ℕ
number_of Undefined = 0
number_of Null = 1
number_of Boolean = 2
number_of Number = 3
number_of String = 4
number_of Vec2 = 5
number_of Vec3 = 6
number_of Vec4 = 7

abbrev pub eq_kind : Kind → Kind → Bool
eq_kind k l = eqb (number_of k) (number_of l)

-- how many components a value of a kind has, a Number being its own one
abbrev pub dimension_of : Kind → ℕ
dimension_of Undefined = 0
dimension_of Null = 0
dimension_of Boolean = 0
dimension_of Number = 1
dimension_of String = 0
dimension_of Vec2 = 2
dimension_of Vec3 = 3
dimension_of Vec4 = 4
