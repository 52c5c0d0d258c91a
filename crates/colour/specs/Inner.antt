-- What the private functions of the crate work out. No promise of a public function names anything here.
use Rattle.std.specs.Prelude.{cond, List, [], ◌∷◌, map, true, ◌&&◌, ℕ, ◌+◌, ◌*◌, Option, Some, None}
use Rattle.std.specs.Borrow.{Bor}
use Rattle.lexer.specs.Bytes.{is_hex_digit, same}
use Rattle.words.specs.Table.{folded}
use Rattle.colour.specs.Text.{hex_value}
use Rattle.colour.specs.declared.colour.Colour.{Colour}

-- the value of a hex digit
abbrev pub digit_of : ℕ → Option ℕ
digit_of b = cond (is_hex_digit b) (Some (hex_value b)) None

-- the value of two
abbrev pub byte_of : ℕ → ℕ → Option ℕ
byte_of high low = cond (is_hex_digit high && is_hex_digit low) (Some (16 * hex_value high + hex_value low)) None

-- the colour of the first word of a table that a text is, in any letter case
unfoldable pub found : List (Bor (List ℕ) × Colour) → List ℕ → Option Colour
found [] text = None
found ((word, colour) ∷ rest) text = cond (same (map (folded true) text) (map (folded true) word.now)) (Some colour) (found rest text)
