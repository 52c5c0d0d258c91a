-- The token at a place: page 01, "Tokens and grammar".
use Rattle.std.specs.Prelude.{cond, ◌&&◌, List, [], ◌∷◌, ℕ, ◌+◌, ◌-◌, eqb, take, drop, Some, None}
use Rattle.std.proofs.Math.Seq.{slice}
use Rattle.number.specs.Decimal.{read_at}
use Rattle.number.specs.declared.decimal.Decimal.{Decimal}
use Rattle.number.specs.declared.decimal.Decimal.TheVariants as decimal
use Rattle.lexer.specs.Bytes.{is_space, is_quote, is_word_start, is_name_byte, is_name_length, in_class, run, begins, place_in, ascii}
use Rattle.lexer.specs.Punctuator.{Spelled, spelled_by}
use Rattle.lexer.specs.declared.bytes.Class.TheVariants.{Inside}
use Rattle.lexer.specs.declared.token.Token.TheVariants.{Number, String, Variable, Word, Punctuator}
use Rattle.lexer.specs.declared.token.Lexeme.{Lexeme}
use Rattle.lexer.specs.declared.token.Lexeme.TheVariants.{Found, Bad, End}

-- ---- each form of token, at a place, from the bytes that stand there

-- "A string is closed by the quote that opened it"; "a string with a byte below 0x20, or unclosed, is refused 2 at its opening quote". The
-- bytes after the quote q are given.
unfoldable pub string_at : ℕ → ℕ → List ℕ → Lexeme
unfolding run
string_at at q bs =
    let n = run (in_class (Inside q)) bs in
    cond (begins (q ∷ []) (drop n bs)) (Found String at (at + (n + 2))) (Bad at (at + 1))

-- What the text of a string literal means, from the bytes between its quotes: "a backslash in it stands for itself".
unfoldable pub meaning : List ℕ → List ℕ
meaning bs = bs

-- what a string means that stands from a place up to an end
abbrev pub string_meaning : List ℕ → ℕ → ℕ → List ℕ
string_meaning text at end = meaning (slice (at + 1) (end - 1) text)

-- "A variable is `${`, a name, `}` with no spaces; any other `$` is refused 2 at it." The bytes after the `$` are given.
unfoldable pub variable_at : ℕ → List ℕ → Lexeme
unfolding run
variable_at at bs =
    let n = run is_name_byte (drop 1 bs) in
    cond ((begins (ascii "{") bs && is_name_length n) && begins (ascii "}") (drop (1 + n) bs))
    (Found Variable at (at + (n + 3)))
    (Bad at (at + 1))

-- "`true`, `false`, `null`, `undefined`, `NaN`, `Infinity`", "the literal words": the number of one is its place in this list, and that of
-- any other word is 6
abbrev pub literal_words : List (List ℕ)
literal_words = ascii "true" ∷ ascii "false" ∷ ascii "null" ∷ ascii "undefined" ∷ ascii "NaN" ∷ ascii "Infinity" ∷ []

-- "A word is a letter or underscore, then letters, digits or underscores": the first byte is tested before
unfoldable pub word_at : ℕ → List ℕ → Lexeme
unfolding run
word_at at rest = let n = run is_name_byte rest in Found (Word (place_in literal_words (take n rest))) at (at + n)

abbrev pub lexeme_of : ℕ → Spelled → Lexeme
lexeme_of at (Some k, n) = Found (Punctuator k) at (at + n)
lexeme_of at (None, n) = Bad at (at + n)

unfoldable pub punctuator_at : ℕ → List ℕ → Lexeme
unfolding spelled_by
punctuator_at at rest = lexeme_of at (spelled_by rest)

-- ---- what stands at a place

-- what else a token may begin with; the last is a punctuator, or nothing that is listed
pub data Start : Type 0 where
  quote dollar letter other : Start

-- `$` is 36
abbrev pub start_of : ℕ → Start
start_of b = cond (is_quote b) quote (cond (eqb b 36) dollar (cond (is_word_start b) letter other))

abbrev pub starting_at : Start → ℕ → ℕ → List ℕ → Lexeme
starting_at quote at b bs = string_at at b bs
starting_at dollar at b bs = variable_at at bs
starting_at letter at b bs = word_at at (b ∷ bs)
starting_at other at b bs = punctuator_at at (b ∷ bs)

unfoldable pub other_at : ℕ → ℕ → List ℕ → Lexeme
unfolding string_at variable_at word_at punctuator_at
other_at at b bs = starting_at (start_of b) at b bs

-- a number is a token, but "a longer one" than 15 digits is "refused with 2"
abbrev pub number_or : Decimal → ℕ → ℕ → List ℕ → Lexeme
number_or (decimal.Number end n k) at b bs = Found (Number n k) at end
number_or (decimal.TooLong end) at b bs = Bad at end
number_or decimal.Nothing at b bs = other_at at b bs

abbrev pub first_at : List ℕ → ℕ → List ℕ → Lexeme
first_at text at [] = End
first_at text at (b ∷ bs) = number_or (read_at text at) at b bs

-- What stands at a place of a text, or after it: "spaces part tokens".
unfoldable pub lexeme_at : List ℕ → ℕ → Lexeme
unfolding run read_at other_at
lexeme_at text from = let at = from + run is_space (drop from text) in first_at text at (drop at text)
