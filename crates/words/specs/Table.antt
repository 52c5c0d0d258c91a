-- Tables of words: page 01, "Kinds and meaning" (the functions' and colours' words, "any letter case").
use Rattle.std.specs.Prelude.{Bool, true, false, cond, ◌&&◌, List, [], ◌∷◌, ℕ, ◌+◌, leb}
use Rattle.lexer.specs.Bytes.{is_name_byte}

-- a byte, or where letter case is not to count its small letter: `A` is 65, `Z` is 90, and a small letter is 32 above
abbrev pub folded : Bool → ℕ → ℕ
folded c b = cond (c && (leb 65 b && leb b 90)) (b + 32) b

-- a byte put before the first word
abbrev pub before : ℕ → List (List ℕ) → List (List ℕ)
before b [] = (b ∷ []) ∷ []
before b (w ∷ ws) = (b ∷ w) ∷ ws

-- The words of a table: letters, digits and underscores, each word ended by one other byte, which the last may lack.
abbrev pub words_in : List ℕ → List (List ℕ)
words_in [] = []
words_in (b ∷ bs) = elim (is_name_byte b) [ true ↦ before b (words_in bs) | false ↦ [] ∷ words_in bs ]
