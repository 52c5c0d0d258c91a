-- Lines of the output: page 01, "Checked examples" (the sample of the program `ledger`, whose lines these are, and what stands below it).
use Rattle.std.specs.Prelude.{Bool, true, false, cond, List, [], ◌∷◌, ◌++◌, ℕ, zero, suc, ◌+◌, ◌/◌, ◌%◌, leb, ltb, length, drop, Option, Some, None}
use Rattle.lexer.specs.Bytes.{ascii}
use Rattle.colour.specs.Colour.{bytes_of}
use Rattle.colour.specs.declared.colour.Colour.{Colour}

-- "an accepted one writes its line at the front and touches no byte after it": the line and its length; one that doesn't fit is left out,
-- with the length 0
unfoldable pub front : List ℕ → List ℕ → List ℕ × ℕ
front out line = cond (leb (length line) (length out)) (line ++ drop (length line) out, length line) (out, 0)

-- ---- numbers

-- the last decimal digit of a number; `0` is 48
abbrev pub decimal_digit : ℕ → ℕ
decimal_digit n = 48 + n % 10

-- the last digits of a number, so many at most, with no zero before the others
unfoldable pub digits_of : ℕ → ℕ → List ℕ
digits_of zero n = []
digits_of (suc most) n = elim (ltb n 10) [ true ↦ decimal_digit n ∷ [] | false ↦ digits_of most (n / 10) ++ (decimal_digit n ∷ []) ]

-- a number below ten to the twentieth, as every `usize` is
abbrev pub decimal : ℕ → List ℕ
decimal n = digits_of 20 n

-- ---- colours

-- the last hex digit of a number; `0` is 48 and `A` is 65
unfoldable pub hex_digit : ℕ → ℕ
hex_digit n = cond (ltb (n % 16) 10) (48 + n % 16) (55 + n % 16)

abbrev pub hex_byte : ℕ → List ℕ
hex_byte b = hex_digit (b / 16) ∷ hex_digit b ∷ []

-- `#00FF0080`: red, green, blue, alpha; `#` is 35
unfoldable pub colour_text : Colour → List ℕ
colour_text c =
    let b = bytes_of c in
    35 ∷ (hex_byte b.red ++ (hex_byte b.green ++ (hex_byte b.blue ++ hex_byte b.alpha)))

-- "No colour prints `undefined`."
abbrev pub colouring_text : Option Colour → List ℕ
colouring_text None = ascii "undefined"
colouring_text (Some c) = colour_text c

abbrev pub truth_text : Bool → List ℕ
truth_text true = ascii "true"
truth_text false = ascii "false"

-- ---- lines

-- a field that is not the first: a tab (9) stands before it
abbrev pub field_of : List ℕ → List ℕ
field_of text = 9 ∷ text

-- LF
abbrev pub ending : List ℕ
ending = 10 ∷ []

-- `strip→show→colour`
unfoldable pub heading : List ℕ
heading = ascii "strip" ++ (field_of (ascii "show") ++ (field_of (ascii "colour") ++ ending))

-- `1→true→#00FF0080`
unfoldable pub painted_line : ℕ → Bool → Option Colour → List ℕ
painted_line number show colouring = decimal number ++ (field_of (truth_text show) ++ (field_of (colouring_text colouring) ++ ending))

-- `3→refused→9→5`
unfoldable pub refused_feature : ℕ → ℕ → ℕ → List ℕ
refused_feature feature number place =
    decimal feature ++ (field_of (ascii "refused") ++ (field_of (decimal number) ++ (field_of (decimal place) ++ ending)))

-- "A refused head prints the heading line, then `refused`, number, line, place, parted by tabs."
unfoldable pub refused_head : ℕ → ℕ → ℕ → List ℕ
refused_head number line place =
    ascii "refused" ++ (field_of (decimal number) ++ (field_of (decimal line) ++ (field_of (decimal place) ++ ending)))

-- no line has more bytes: `Sizes` in proofs/
abbrev pub longest_line : ℕ
longest_line = 72
