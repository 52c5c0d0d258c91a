-- Lines that conform, one for every choice that the types and flags of a schema allow: page 01, "Refusal numbers" ("A strip conforms to a
-- schema (`prop` lines, or none) if by this table neither 1 nor 9 refuses it").
use Rattle.std.specs.Prelude.{Bool, true, false, not, ◌&&◌, List, [], ◌∷◌, ◌++◌, ℕ, ◌+◌, T, eqb, ltb, length}
use Rattle.number.specs.Arithmetic.{nought}
use Rattle.lexer.specs.Bytes.{ascii}
use Rattle.kind.specs.declared.kind.Kind.{Kind}
use Rattle.kind.specs.declared.kind.Kind.TheVariants as kind
use Rattle.value.specs.declared.value.Value.{Value}
use Rattle.value.specs.declared.value.Value.TheVariants.{Undefined, Null, Boolean, Number, String, Vec2, Vec3, Vec4}
use Rattle.kind.specs.declared.set.Kinds.{Kinds}
use Rattle.checker.specs.Property.{Property, undeclared, declared, property_kinds}
use Rattle.text.specs.Word.{feature_word}

-- what a property may be given: nothing, null, or a sample of its type
pub data Choice : Type 0 where
  absent : Choice
  null : Choice
  sample : Choice

-- "`a` (may be absent), `n` (may be null)"
abbrev pub Allowed : Property → Choice → Type 0
Allowed undeclared c = ⊥
Allowed (declared t a n) absent = T a
Allowed (declared t a n) null = T n
Allowed (declared t a n) sample = Unit {0}

-- a property with what it is given
pub data Given : Type 0 where
  given : (p : Property) (c : Choice) → Allowed p c → Given

-- a sample of each type; the value of a String is the empty text behind its `=`, wherever that stands
abbrev pub sample_text : Kind → List ℕ
sample_text kind.Undefined = []
sample_text kind.Null = ascii "null"
sample_text kind.Boolean = ascii "true"
sample_text kind.Number = ascii "0"
sample_text kind.String = ascii "="
sample_text kind.Vec2 = ascii "0 0"
sample_text kind.Vec3 = ascii "0 0 0"
sample_text kind.Vec4 = ascii "0 0 0 0"

abbrev pub sample_at : ℕ → Kind → Value
sample_at at kind.Undefined = Undefined
sample_at at kind.Null = Null
sample_at at kind.Boolean = Boolean true
sample_at at kind.Number = Number nought
sample_at at kind.String = String (record { literal = false; start = at + 1; end = at + 1 })
sample_at at kind.Vec2 = Vec2 nought nought
sample_at at kind.Vec3 = Vec3 nought nought nought
sample_at at kind.Vec4 = Vec4 nought nought nought nought

-- ---- a line

-- what is written for a property, and the value that it is, by the place where it is written
abbrev pub text_of : Given → List ℕ
text_of (given undeclared c ok) = []
text_of (given (declared t a n) absent ok) = []
text_of (given (declared t a n) null ok) = ascii "null"
text_of (given (declared t a n) sample ok) = sample_text t

abbrev pub chosen_at : ℕ → Given → Value
chosen_at at (given undeclared c ok) = Undefined
chosen_at at (given (declared t a n) absent ok) = Undefined
chosen_at at (given (declared t a n) null ok) = Null
chosen_at at (given (declared t a n) sample ok) = sample_at at t

abbrev pub kinds_of : Given → Kinds
kinds_of (given p c ok) = property_kinds p

-- each field behind a tab
abbrev pub written : List Given → List ℕ
written [] = []
written (g ∷ gs) = 9 ∷ text_of g ++ written gs

abbrev pub line_for : List Given → List ℕ
line_for gs = feature_word ++ written gs

-- the values of the fields, the first of which begins at a place
abbrev pub chosen_from : ℕ → List Given → List Value
chosen_from at [] = []
chosen_from at (g ∷ gs) = chosen_at at g ∷ chosen_from (at + length (text_of g) + 1) gs

-- what may stand in one of the "Text lines, each ended by LF": a byte that is no LF
abbrev pub is_line_byte : ℕ → Bool
is_line_byte b = ltb b 256 && not (eqb b 10)
