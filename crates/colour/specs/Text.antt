-- The colour that a text names: page 01, "Kinds and meaning" ("`#` and 3 or 6 hex digits, or one of CSS's sixteen basic words, any letter
-- case; each byte divided by 255"), and CSS Color Module Level 3, "Basic color keywords".
use Rattle.std.specs.Prelude.{true, cond, ◌&&◌, List, [], ◌∷◌, map, ℕ, suc, ◌+◌, ◌*◌, eqb, drop, Option, Some, None}
use Rattle.lexer.specs.Bytes.{is_hex_digit, begins, place_in, ascii}
use Rattle.words.specs.Table.{folded}
use Rattle.colour.specs.Colour.{of_bytes}
use Rattle.colour.specs.declared.colour.Colour.{Colour}

-- ---- words

-- a word and its red, green and blue
pub data Basic : Type 0 where
  basic : List ℕ → ℕ → ℕ → ℕ → Basic

-- CSS Color Module Level 3, "Basic color keywords", by the alphabet
abbrev pub basics : List Basic
basics =
    basic (ascii "aqua") 0 255 255
    ∷ basic (ascii "black") 0 0 0
    ∷ basic (ascii "blue") 0 0 255
    ∷ basic (ascii "fuchsia") 255 0 255
    ∷ basic (ascii "gray") 128 128 128
    ∷ basic (ascii "green") 0 128 0
    ∷ basic (ascii "lime") 0 255 0
    ∷ basic (ascii "maroon") 128 0 0
    ∷ basic (ascii "navy") 0 0 128
    ∷ basic (ascii "olive") 128 128 0
    ∷ basic (ascii "purple") 128 0 128
    ∷ basic (ascii "red") 255 0 0
    ∷ basic (ascii "silver") 192 192 192
    ∷ basic (ascii "teal") 0 128 128
    ∷ basic (ascii "white") 255 255 255
    ∷ basic (ascii "yellow") 255 255 0
    ∷ []

abbrev pub word : Basic → List ℕ
word (basic w r g b) = w

abbrev pub colour : Basic → Colour
colour (basic w r g b) = of_bytes r g b

abbrev pub first : List Basic → Option Colour
first [] = None
first (c ∷ cs) = Some (colour c)

-- by a word's number, its place in the list
unfoldable pub colour_at : ℕ → Option Colour
colour_at n = first (drop n basics)

-- ---- hex digits

-- the place of a byte in a text, or how long the text is
abbrev pub byte_place : List ℕ → ℕ → ℕ
byte_place [] b = 0
byte_place (c ∷ cs) b = cond (eqb b c) 0 (suc (byte_place cs b))

-- the value of a hex digit, in "any letter case", is its place among them all
abbrev pub hex_value : ℕ → ℕ
hex_value b = byte_place (ascii "0123456789abcdef") (folded true b)

-- three digits, each of which stands for two
unfoldable pub short_hex : ℕ → ℕ → ℕ → Option Colour
unfolding of_bytes
short_hex r g b =
    cond (is_hex_digit r && (is_hex_digit g && is_hex_digit b)) (Some (of_bytes (17 * hex_value r) (17 * hex_value g) (17 * hex_value b))) None

-- six digits, two for each of red, green and blue
unfoldable pub long_hex : ℕ → ℕ → ℕ → ℕ → ℕ → ℕ → Option Colour
unfolding of_bytes
long_hex r s g h b c =
    cond ((is_hex_digit r && is_hex_digit s) && ((is_hex_digit g && is_hex_digit h) && (is_hex_digit b && is_hex_digit c)))
    (Some (of_bytes (16 * hex_value r + hex_value s) (16 * hex_value g + hex_value h) (16 * hex_value b + hex_value c)))
    None

abbrev pub hex_text : List ℕ → Option Colour
hex_text [] = None
hex_text (r ∷ []) = None
hex_text (r ∷ g ∷ []) = None
hex_text (r ∷ g ∷ b ∷ []) = short_hex r g b
hex_text (r ∷ s ∷ g ∷ h ∷ []) = None
hex_text (r ∷ s ∷ g ∷ h ∷ b ∷ []) = None
hex_text (r ∷ s ∷ g ∷ h ∷ b ∷ c ∷ []) = long_hex r s g h b c
hex_text (r ∷ s ∷ g ∷ h ∷ b ∷ c ∷ d ∷ ds) = None

-- ---- the colour of a text
unfoldable pub colour_of : List ℕ → Option Colour
unfolding colour_at short_hex long_hex
colour_of text = cond (begins (ascii "#") text) (hex_text (drop 1 text)) (colour_at (place_in (map word basics) (map (folded true) text)))
