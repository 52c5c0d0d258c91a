-- What a field says: page 01, "What the painter reads" ("A field: empty is absent, `null` is null, `true`/`false`, a number with an
-- optional `-`, a string as `=` and then 0 to 255 bytes, a vector as such numbers parted by single spaces. `-0` is negative zero.").
use Rattle.std.specs.Prelude.{Bool, true, false, cond, List, [], ◌∷◌, ℕ, ◌+◌, ◌-◌, eqb, leb, Float, length, Option, Some, None}
use Rattle.number.specs.Decimal.{read_at, value_of}
use Rattle.number.specs.declared.decimal.Decimal.{Decimal}
use Rattle.number.specs.declared.decimal.Decimal.TheVariants as decimal
use Rattle.lexer.specs.Bytes.{same, begins, ascii}
use Rattle.kind.specs.Set.{has}
use Rattle.kind.specs.declared.set.Kinds.{Kinds}
use Rattle.value.specs.Value.{kind_of}
use Rattle.value.specs.declared.value.Value.TheVariants.{Undefined, Null, Boolean, Number, String, Vec2, Vec3, Vec4}
use Rattle.text.specs.Parts.{parted}
use Rattle.value.specs.declared.value.Value.{Value}

-- ---- numbers

-- a number that goes up to the text's end, and has at most 15 digits
abbrev pub whole_number : Bool → ℕ → Decimal → Option Float
whole_number negative end decimal.Nothing = None
whole_number negative end (decimal.Number stop n k) = cond (eqb stop end) (Some (value_of negative n k)) None
whole_number negative end (decimal.TooLong stop) = None

-- "a number with an optional `-`", which is 45
unfoldable pub numeral_of : List ℕ → Option Float
unfolding read_at value_of
numeral_of text =
    elim (begins (45 ∷ []) text) [
      | true ↦ whole_number true (length text) (read_at text 1)
      | false ↦ whole_number false (length text) (read_at text 0)
    ]

-- some numbers, if all are
pub data Numbers : Type 0 where
  wrong : Numbers
  all : List Float → Numbers

abbrev pub alongside : Option Float → Numbers → Numbers
alongside None ns = wrong
alongside (Some x) wrong = wrong
alongside (Some x) (all xs) = all (x ∷ xs)

abbrev pub numbers_in : List (List ℕ) → Numbers
numbers_in [] = all []
numbers_in (p ∷ ps) = alongside (numeral_of p) (numbers_in ps)

-- one is a Number, and two to four are a vector
abbrev pub made : Numbers → Option Value
made wrong = None
made (all []) = None
made (all (x ∷ [])) = Some (Number x)
made (all (x ∷ y ∷ [])) = Some (Vec2 x y)
made (all (x ∷ y ∷ z ∷ [])) = Some (Vec3 x y z)
made (all (x ∷ y ∷ z ∷ w ∷ [])) = Some (Vec4 x y z w)
made (all (x ∷ y ∷ z ∷ w ∷ v ∷ us)) = None

-- "such numbers parted by single spaces"; a space is 32
unfoldable pub numbers_of : List ℕ → Option Value
unfolding numeral_of
numbers_of text = made (numbers_in (parted 32 text))

-- ---- strings

-- "0 to 255 bytes"
abbrev pub longest_string : ℕ
longest_string = 255

-- "`=` and then 0 to 255 bytes": the string from its `=` up to its end
abbrev pub string_of : ℕ → ℕ → Option Value
string_of start end =
    cond (leb (end - (start + 1)) longest_string) (Some (String (record { literal = false; start = start + 1; end = end }))) None

-- ---- a field

-- what a field says that is not empty, by the place where it begins; `=` is 61
unfoldable pub filled_of : ℕ → List ℕ → Option Value
unfolding numbers_of
filled_of at text =
    cond (same text (ascii "null")) (Some Null)
    (cond (same text (ascii "true")) (Some (Boolean true))
    (cond (same text (ascii "false")) (Some (Boolean false))
    (elim (begins (61 ∷ []) text) [ true ↦ string_of at (at + length text) | false ↦ numbers_of text ])))

-- "empty is absent"
abbrev pub field_of : ℕ → List ℕ → Option Value
field_of at [] = Some Undefined
field_of at (b ∷ bs) = filled_of at (b ∷ bs)

-- a field conforms if what it says is of a kind that its property may have
abbrev pub conformed : Kinds → Option Value → Option Value
conformed s None = None
conformed s (Some v) = cond (has s (kind_of v)) (Some v) None
