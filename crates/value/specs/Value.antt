-- Values, their kinds and their parts: page 01, "Kinds and meaning".
use Rattle.std.specs.Prelude.{Bool, false, cond, List, [], ◌∷◌, ℕ, get_or, Float}
use Rattle.std.proofs.Math.Seq.{slice}
use Rattle.number.specs.Arithmetic.{nought}
use Rattle.lexer.specs.Token.{meaning}
use Rattle.kind.specs.declared.kind.Kind.{Kind}
use Rattle.kind.specs.declared.kind.Kind.TheVariants as kind
use Rattle.colour.specs.declared.colour.Colour.{Colour}
use Rattle.value.specs.declared.texts.Texts.{Texts}
use Rattle.value.specs.declared.value.Span.{Span}
use Rattle.value.specs.declared.value.Value.{Value}
use Rattle.value.specs.declared.value.Value.TheVariants.{Undefined, Null, Boolean, Number, String, Vec2, Vec3, Vec4}

-- "A value is of one of eight kinds: Undefined, Null, Boolean, Number, String, vec2, vec3, vec4."
abbrev pub kind_of : Value → Kind
kind_of Undefined = kind.Undefined
kind_of Null = kind.Null
kind_of (Boolean b) = kind.Boolean
kind_of (Number x) = kind.Number
kind_of (String s) = kind.String
kind_of (Vec2 x y) = kind.Vec2
kind_of (Vec3 x y z) = kind.Vec3
kind_of (Vec4 x y z w) = kind.Vec4

-- A String is a place, in the style's text if it is a literal and else in the feature's. These are its bytes: what a literal's bytes mean
-- is the lexer's.
unfoldable pub text_in : List ℕ → List ℕ → Span → List ℕ
text_in style feature s = cond s.literal (meaning (slice s.start s.end style)) (slice s.start s.end feature)

-- the bytes of a string by the texts that strings lie in
abbrev pub text_of : Texts → Span → List ℕ
text_of t = text_in t.style.now t.feature.now

abbrev pub components_of : Value → List Float
components_of Undefined = []
components_of Null = []
components_of (Boolean b) = []
components_of (Number x) = x ∷ []
components_of (String s) = []
components_of (Vec2 x y) = x ∷ y ∷ []
components_of (Vec3 x y z) = x ∷ y ∷ z ∷ []
components_of (Vec4 x y z w) = x ∷ y ∷ z ∷ w ∷ []

-- a component by its index, from 0; a "Number in place of a vector" stands at each
abbrev pub at : ℕ → Value → Float
at i Undefined = nought
at i Null = nought
at i (Boolean b) = nought
at i (Number x) = x
at i (String s) = nought
at i (Vec2 x y) = get_or (x ∷ y ∷ []) i nought
at i (Vec3 x y z) = get_or (x ∷ y ∷ z ∷ []) i nought
at i (Vec4 x y z w) = get_or (x ∷ y ∷ z ∷ w ∷ []) i nought

-- of a Boolean
abbrev pub truth : Value → Bool
truth Undefined = false
truth Null = false
truth (Boolean b) = b
truth (Number x) = false
truth (String s) = false
truth (Vec2 x y) = false
truth (Vec3 x y z) = false
truth (Vec4 x y z w) = false

abbrev pub nowhere : Span
nowhere = record { literal = false; start = 0; end = 0 }

-- of a String
abbrev pub span : Value → Span
span Undefined = nowhere
span Null = nowhere
span (Boolean b) = nowhere
span (Number x) = nowhere
span (String s) = s
span (Vec2 x y) = nowhere
span (Vec3 x y z) = nowhere
span (Vec4 x y z w) = nowhere

-- "At the end the colour is four binary64 numbers, red, green, blue, alpha"
unfoldable pub colour_in : Value → Colour
colour_in v = record { red = at 0 v; green = at 1 v; blue = at 2 v; alpha = at 3 v }
