-- The words of lines, types and flags: page 01, "What the painter reads".
use Rattle.std.specs.Prelude.{Bool, true, false, cond, List, [], ◌∷◌, ℕ, slice_get, Option, Some}
use Rattle.lexer.specs.Bytes.{same, place_in, ascii}
use Rattle.kind.specs.declared.kind.Kind.{Kind}
use Rattle.kind.specs.declared.kind.Kind.TheVariants.{Boolean, Number, String, Vec2, Vec3, Vec4}
use Rattle.text.specs.declared.word.Line.{Line}
use Rattle.text.specs.declared.word.Line.TheVariants as line
use Rattle.text.specs.declared.word.Flags.{Flags}

-- `feat` begins a strip's line
abbrev pub feature_word : List ℕ
feature_word = ascii "feat"

abbrev pub is_feature_word : List ℕ → Bool
is_feature_word word = same word feature_word

-- `prop`, `define`, `show`, `color` and `cond` begin those of a head
abbrev pub line_words : List (List ℕ)
line_words = ascii "prop" ∷ ascii "define" ∷ ascii "show" ∷ ascii "color" ∷ ascii "cond" ∷ []

abbrev pub lines_listed : List Line
lines_listed = line.Prop ∷ line.Define ∷ line.Show ∷ line.Color ∷ line.Cond ∷ []

abbrev pub line_numbered : ℕ → Option Line
line_numbered n = slice_get lines_listed n

unfoldable pub line_of : List ℕ → Option Line
line_of word = cond (is_feature_word word) (Some line.Feat) (line_numbered (place_in line_words word))

-- "Type: `Boolean`, `Number`, `String`, `vec2`, `vec3`, `vec4`."
abbrev pub type_words : List (List ℕ)
type_words = ascii "Boolean" ∷ ascii "Number" ∷ ascii "String" ∷ ascii "vec2" ∷ ascii "vec3" ∷ ascii "vec4" ∷ []

abbrev pub types_listed : List Kind
types_listed = Boolean ∷ Number ∷ String ∷ Vec2 ∷ Vec3 ∷ Vec4 ∷ []

abbrev pub type_numbered : ℕ → Option Kind
type_numbered n = slice_get types_listed n

unfoldable pub type_of : List ℕ → Option Kind
type_of word = type_numbered (place_in type_words word)

-- "Flags: `-`, `a` (may be absent), `n` (may be null), `an`."
abbrev pub flag_words : List (List ℕ)
flag_words = ascii "-" ∷ ascii "a" ∷ ascii "n" ∷ ascii "an" ∷ []

-- may be absent, may be null
abbrev pub flags : Bool → Bool → Flags
flags a n = record { absent = a; null = n }

abbrev pub flags_listed : List Flags
flags_listed = flags false false ∷ flags true false ∷ flags false true ∷ flags true true ∷ []

abbrev pub flags_numbered : ℕ → Option Flags
flags_numbered n = slice_get flags_listed n

unfoldable pub flags_of : List ℕ → Option Flags
flags_of word = flags_numbered (place_in flag_words word)
