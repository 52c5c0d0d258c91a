-- Classes of bytes and runs of them: page 01, "Tokens and grammar" and "What the painter reads" (names).
use Rattle.std.specs.Prelude.{Bool, true, false, cond, not, ◌&&◌, ◌||◌, List, [], ◌∷◌, ℕ, suc, eqb, leb}
use Prim.Native.Char.{code}
use Prim.Native.String as text
use Rattle.number.specs.Decimal.{is_digit}
use Rattle.lexer.specs.declared.bytes.Class.{Class}
use Rattle.lexer.specs.declared.bytes.Class.TheVariants.{Space, Name, Inside}

-- "bytes 0x20 to 0x7E"
abbrev pub is_printable : ℕ → Bool
is_printable b = leb 0x20 b && leb b 0x7E

abbrev pub is_space : ℕ → Bool
is_space b = eqb b 32

-- `A` is 65, `Z` is 90, `a` is 97 and `z` is 122
abbrev pub is_letter : ℕ → Bool
is_letter b = (leb 65 b && leb b 90) || (leb 97 b && leb b 122)

-- a digit, or `A` to `F`, or `a` to `f`
abbrev pub is_hex_digit : ℕ → Bool
is_hex_digit b = (is_digit b || (leb 65 b && leb b 70)) || (leb 97 b && leb b 102)

-- "letters, digits and underscores"; `_` is 95
abbrev pub is_name_byte : ℕ → Bool
is_name_byte b = (is_letter b || is_digit b) || eqb b 95

-- "Names are 1 to 64 letters, digits and underscores."
abbrev pub longest_name : ℕ
longest_name = 64

abbrev pub is_name_length : ℕ → Bool
is_name_length n = leb 1 n && leb n longest_name

-- "A word is a letter or underscore, then letters, digits or underscores"
abbrev pub is_word_start : ℕ → Bool
is_word_start b = is_letter b || eqb b 95

-- `'` is 39 and `"` is 34
abbrev pub is_quote : ℕ → Bool
is_quote b = eqb b 39 || eqb b 34

-- inside a string that the quote q opened: every byte from 0x20 up but q, a backslash being one of them
abbrev pub in_class : Class → ℕ → Bool
in_class Space b = is_space b
in_class Name b = is_name_byte b
in_class (Inside q) b = leb 32 b && not (eqb b q)

-- how many bytes of a kind a text begins with
unfoldable pub run : (ℕ → Bool) → List ℕ → ℕ
run p [] = 0
run p (b ∷ bs) = elim (p b) [ true ↦ suc (run p bs) | false ↦ 0 ]

-- whether a text begins with some bytes
abbrev pub begins : List ℕ → List ℕ → Bool
begins [] text = true
begins (x ∷ xs) [] = false
begins (x ∷ xs) (b ∷ bs) = eqb b x && begins xs bs

-- whether two lists of bytes are the same
abbrev pub same : List ℕ → List ℕ → Bool
same [] [] = true
same [] (y ∷ ys) = false
same (x ∷ xs) [] = false
same (x ∷ xs) (y ∷ ys) = eqb x y && same xs ys

-- the place of a word in a list, or how many the list has
abbrev pub place_in : List (List ℕ) → List ℕ → ℕ
place_in [] s = 0
place_in (t ∷ ts) s = cond (same s t) 0 (suc (place_in ts s))

-- the bytes of a text that is all ASCII, as a name or a word
abbrev pub ascii : text.String → List ℕ
ascii text.[] = []
ascii (text.◌∷◌ c s) = code c ∷ ascii s
