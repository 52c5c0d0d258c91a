-- What the grammar sees of a token: page 01, "Tokens and grammar". A symbol has a number, the place of its token and its end.
use Rattle.std.specs.Prelude.{Bool, cond, ◌&&◌, List, [], ◌∷◌, ◌++◌, map, ℕ, zero, suc, ◌+◌, ◌-◌, eqb, ltb, leb, length, get_or}
use Rattle.std.proofs.Math.Seq.{slice}
use Rattle.lexer.specs.Bytes.{place_in, ascii}
use Rattle.lexer.specs.Punctuator.{punctuators}
pub use Rattle.lexer.specs.Punctuator.{question, colon, open_round, close_round, open_square, close_square, comma, dot}
use Rattle.lexer.specs.Token.{literal_words, lexeme_at}
use Rattle.lexer.specs.declared.token.Token.{Token}
use Rattle.lexer.specs.declared.token.Token.TheVariants.{Number, String, Variable, Word, Punctuator}
use Rattle.lexer.specs.declared.token.Lexeme.{Lexeme}
use Rattle.lexer.specs.declared.token.Lexeme.TheVariants.{Found, Bad, End}
use Rattle.value.specs.Name.{function_names, components, member_index}
use Rattle.syntax.specs.declared.symbol.Symbol.{Symbol}

-- ---- the numbers

-- Punctuators have their own, the places in page 01's list. Then come the indices `0` to `3`, any other number, a string, the literal
-- words, any other word, and a variable; and last the end of the text: `in_order` in proofs/Numbers.antt.
abbrev pub first_index : ℕ
first_index = 22

abbrev pub last_index : ℕ
last_index = 25

abbrev pub other_number : ℕ
other_number = 26

abbrev pub string : ℕ
string = 27

abbrev pub first_word : ℕ
first_word = 28

abbrev pub last_literal : ℕ
last_literal = 33

abbrev pub word : ℕ
word = 34

abbrev pub variable : ℕ
variable = 35

abbrev pub end : ℕ
end = 36

-- no token, as a text has it that is refused with 2
abbrev pub none : ℕ
none = 37

-- ---- the symbols of a text

-- "`[0]` to `[3]`"
abbrev pub indices : ℕ
indices = components

-- "the index one digit": such a number has no digit after the point
abbrev pub number_of : Token → ℕ
number_of (Number digits places) = cond (eqb places 0 && ltb digits indices) (first_index + digits) other_number
number_of String = string
number_of (Word k) = cond (ltb k (length literal_words)) (first_word + k) word
number_of Variable = variable
number_of (Punctuator k) = cond (ltb k (length punctuators)) k none

-- what the grammar sees of a token with its place and its end
abbrev pub seen : Token → ℕ → ℕ → Symbol
seen t at until = record { number = number_of t; at = at; end = until }

abbrev pub symbol_of : List ℕ → Lexeme → Symbol
symbol_of text (Found t at until) = seen t at until
symbol_of text (Bad at until) = record { number = none; at = at; end = until }
symbol_of text End = record { number = end; at = length text; end = length text }

-- the symbol at a place, or after it
unfoldable pub symbol_at : List ℕ → ℕ → Symbol
unfolding lexeme_at
symbol_at text from = symbol_of text (lexeme_at text from)

-- ---- each symbol once, for `in_order`

-- a token for each symbol: page 01's punctuators, numbers, a string, page 01's literal words, another word, a variable
abbrev pub one_of_each : List Token
one_of_each =
    map (λ s. Punctuator (place_in punctuators s)) punctuators
    ++ (Number 0 0 ∷ Number 1 0 ∷ Number 2 0 ∷ Number 3 0 ∷ Number 4 0 ∷ String ∷ [])
    ++ map (λ s. Word (place_in literal_words s)) literal_words
    ++ (Word (place_in literal_words (ascii "vec2")) ∷ Variable ∷ [])

-- the numbers from one on, so many
abbrev pub count_from : ℕ → ℕ → List ℕ
count_from n zero = []
count_from n (suc k) = n ∷ count_from (suc n) k

-- ---- tests

abbrev pub is : ℕ → Symbol → Bool
is n x = eqb x.number n

-- a number, a string or a literal word
abbrev pub is_literal : Symbol → Bool
is_literal x = leb first_index x.number && leb x.number last_literal

-- and which of these it is: any index is a number
abbrev pub form_of : Symbol → ℕ
form_of x = x.number - other_number

abbrev pub is_index : Symbol → Bool
is_index x = leb first_index x.number && leb x.number last_index

abbrev pub index_of : Symbol → ℕ
index_of x = x.number - first_index

-- after a dot a literal word is a word like any other
abbrev pub is_word : Symbol → Bool
is_word x = leb first_word x.number && leb x.number word

-- ---- operators

-- the spelling of a punctuator; of any other symbol nothing
abbrev pub spelling : ℕ → List ℕ
spelling n = get_or punctuators n []

abbrev pub is_among : List (List ℕ) → List ℕ → Bool
is_among ss s = ltb (place_in ss s) (length ss)

-- "unary `+ - !`"
abbrev pub prefixes : List (List ℕ)
prefixes = ascii "+" ∷ ascii "-" ∷ ascii "!" ∷ []

unfoldable pub is_prefix : Symbol → Bool
is_prefix x = is_among prefixes (spelling x.number)

-- "Precedence, lowest first: `? :`, `||`, `&&`, equality, order, `+ -`, `* / %`": the binary operators, from the level that binds most
abbrev pub operators : List (List (List ℕ))
operators =
    (ascii "*" ∷ ascii "/" ∷ ascii "%" ∷ [])
    ∷ (ascii "+" ∷ ascii "-" ∷ [])
    ∷ (ascii "<" ∷ ascii "<=" ∷ ascii ">" ∷ ascii ">=" ∷ [])
    ∷ (ascii "===" ∷ ascii "!==" ∷ [])
    ∷ (ascii "&&" ∷ [])
    ∷ (ascii "||" ∷ [])
    ∷ []

-- how many levels there are
abbrev pub levels : ℕ
levels = length operators

-- the level of a spelling, where the first of these is the level k; 0 for what is no binary operator
abbrev pub level_in : ℕ → List (List (List ℕ)) → List ℕ → ℕ
level_in k [] s = 0
level_in k (l ∷ ls) s = cond (is_among l s) k (level_in (suc k) ls s)

unfoldable pub precedence_of : ℕ → ℕ
precedence_of n = level_in 1 operators (spelling n)

abbrev pub has_precedence : ℕ → Symbol → Bool
has_precedence k x = eqb (precedence_of x.number) k

-- ---- names

-- the number of the function that a word names, and the index that it picks as a member; for other words the first number behind these
abbrev pub function_of : List ℕ → Symbol → ℕ
function_of text x = place_in function_names (slice x.at x.end text)

abbrev pub member_of : List ℕ → Symbol → ℕ
member_of text x = member_index (slice x.at x.end text)
