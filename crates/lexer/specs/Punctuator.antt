-- Punctuators, the longest of which is taken: page 01, "Tokens and grammar".
use Rattle.std.specs.Prelude.{Bool, true, false, cond, List, [], ◌∷◌, ◌++◌, ℕ, leb, ltb, length, Option, Some, None}
use Rattle.lexer.specs.Bytes.{begins, place_in, ascii}

-- "Operators: `? : || && === !== < <= > >= + - * / % !`, and `( ) [ ] , .`": a punctuator's number is its place in this list.
abbrev pub punctuators : List (List ℕ)
punctuators =
    ascii "?" ∷ ascii ":" ∷ ascii "||" ∷ ascii "&&" ∷ ascii "===" ∷ ascii "!=="
    ∷ ascii "<" ∷ ascii "<=" ∷ ascii ">" ∷ ascii ">=" ∷ ascii "+" ∷ ascii "-"
    ∷ ascii "*" ∷ ascii "/" ∷ ascii "%" ∷ ascii "!" ∷ ascii "(" ∷ ascii ")"
    ∷ ascii "[" ∷ ascii "]" ∷ ascii "," ∷ ascii "." ∷ []

-- the numbers of a conditional's two, the brackets, the comma and the dot
abbrev pub question : ℕ
question = place_in punctuators (ascii "?")

abbrev pub colon : ℕ
colon = place_in punctuators (ascii ":")

abbrev pub open_round : ℕ
open_round = place_in punctuators (ascii "(")

abbrev pub close_round : ℕ
close_round = place_in punctuators (ascii ")")

abbrev pub open_square : ℕ
open_square = place_in punctuators (ascii "[")

abbrev pub close_square : ℕ
close_square = place_in punctuators (ascii "]")

abbrev pub comma : ℕ
comma = place_in punctuators (ascii ",")

abbrev pub dot : ℕ
dot = place_in punctuators (ascii ".")

-- "`--` and `++` are refused with 2, as are `==`, `!=`, `=~`"
abbrev pub refused_operators : List (List ℕ)
refused_operators = ascii "--" ∷ ascii "++" ∷ ascii "==" ∷ ascii "!=" ∷ ascii "=~" ∷ []

-- the longer of two spellings
abbrev pub longer : List ℕ → List ℕ → List ℕ
longer s t = cond (leb (length t) (length s)) s t

-- the longer of two, of which the first counts only if the text begins with it
abbrev pub longer_if : Bool → List ℕ → List ℕ → List ℕ
longer_if true s t = longer s t
longer_if false s t = t

-- "Longest match": the longest of some spellings that a text begins with, or nothing
abbrev pub longest_of : List (List ℕ) → List ℕ → List ℕ
longest_of [] text = []
longest_of (s ∷ ss) text = longer_if (begins s text) s (longest_of ss text)

-- a spelling's number, or none where it is refused, and its length
abbrev pub Spelled : Type 0
Spelled = Option ℕ × ℕ

-- What the longest is. A text that begins with none has a byte there that is not listed, as "a lone `&`" or one outside 0x20 to 0x7E.
abbrev pub judged : List ℕ → Spelled
judged [] = (None, 1)
judged (b ∷ bs) =
    let n = place_in punctuators (b ∷ bs) in
    (cond (ltb n (length punctuators)) (Some n) None, length (b ∷ bs))

unfoldable pub spelled_by : List ℕ → Spelled
spelled_by text = judged (longest_of (punctuators ++ refused_operators) text)
