-- The schema of a head: page 01, "Refusal numbers" ("A strip conforms to a schema (`prop` lines, or none) if by this table neither
-- 1 nor 9 refuses it after those `prop` lines alone, with room enough.").
use Rattle.std.specs.Prelude.{Bool, true, false, cond, List, [], ◌∷◌, ℕ, take, Option, Some, None}
use Rattle.text.specs.Parts.{lines, bytes_of, field}
use Rattle.text.specs.Word.{line_of}
use Rattle.text.specs.declared.word.Line.{Line}
use Rattle.text.specs.declared.word.Line.TheVariants as word
use Rattle.style.specs.Style.{Style, listed}

-- a line's word is `prop`
abbrev pub is_property : Option Line → Bool
is_property None = false
is_property (Some word.Prop) = true
is_property (Some word.Define) = false
is_property (Some word.Show) = false
is_property (Some word.Color) = false
is_property (Some word.Cond) = false
is_property (Some word.Feat) = false

-- "(`prop` lines, or none)": those that a head begins with
abbrev pub property_lines : List (List ℕ) → List (List ℕ)
property_lines [] = []
property_lines (l ∷ ls) = cond (is_property (line_of (field l 0))) (l ∷ property_lines ls) []

-- "those `prop` lines alone": the first bytes of the head
abbrev pub schema_text : List ℕ → List ℕ
schema_text head = take (bytes_of (property_lines (lines head))) head

-- what the `prop` lines of a style give alone
abbrev pub properties_of : Style → Style
properties_of s = listed s.properties [] [] [] []
