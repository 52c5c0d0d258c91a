-- A tree as text, with all its brackets.
use Rattle.std.specs.Prelude.{Bool, cond, List, [], ◌∷◌, ◌++◌, map, ℕ, zero, suc, ◌/◌, ◌%◌}
use Rattle.std.specs.Borrow.{Bor}
use Rattle.std.proofs.Math.Seq.{slice}
use Rattle.lexer.specs.Bytes.{ascii}
use Rattle.lexer.specs.Token.{lexeme_at}
use Rattle.lexer.specs.declared.token.Lexeme.{Lexeme}
use Rattle.lexer.specs.declared.token.Lexeme.TheVariants.{Found, Bad, End}
use Rattle.tree.specs.Tree.{Tree, literal, variable, unary, binary, conditional, bare, call, pick, Arguments, last, next}

-- ---- what stands in the text

abbrev pub token_of : List ℕ → Lexeme → List ℕ
token_of text (Found token at end) = slice at end text
token_of text (Bad at end) = []
token_of text End = []

-- the token at a place
abbrev pub token_at : List ℕ → ℕ → List ℕ
token_at text p = token_of text (lexeme_at text p)

-- ---- signs and words, by their numbers

-- the word of a table by its number, and nothing where the table has fewer
abbrev pub word_of : ℕ → List (List ℕ) → List ℕ
word_of n [] = []
word_of zero (w ∷ ws) = w
word_of (suc n) (w ∷ ws) = word_of n ws

-- a table's words behind its references
abbrev pub words_of : List (Bor (List ℕ)) → List (List ℕ)
words_of = map (λ w. w.now)

abbrev pub signs : List (List ℕ)
signs =
    ascii "?" ∷ ascii ":" ∷ ascii "||" ∷ ascii "&&" ∷ ascii "===" ∷ ascii "!==" ∷ ascii "<" ∷ ascii "<="
    ∷ ascii ">" ∷ ascii ">=" ∷ ascii "+" ∷ ascii "-" ∷ ascii "*" ∷ ascii "/" ∷ ascii "%" ∷ ascii "!" ∷ []

-- a punctuator
unfoldable pub sign_of : ℕ → List ℕ
sign_of n = word_of n signs

abbrev pub functions : List (List ℕ)
functions =
    ascii "vec2" ∷ ascii "vec3" ∷ ascii "vec4" ∷ ascii "rgb" ∷ ascii "rgba" ∷ ascii "color" ∷ ascii "isNaN"
    ∷ ascii "isFinite" ∷ ascii "abs" ∷ ascii "sign" ∷ ascii "floor" ∷ ascii "ceil" ∷ ascii "round" ∷ ascii "fract"
    ∷ ascii "min" ∷ ascii "max" ∷ ascii "clamp" ∷ ascii "mix" ∷ ascii "dot" ∷ ascii "cross" ∷ []

unfoldable pub function_of : ℕ → List ℕ
function_of n = word_of n functions

abbrev pub indices : List (List ℕ)
indices =
    ascii "0" ∷ ascii "1" ∷ ascii "2" ∷ ascii "3" ∷ []

unfoldable pub index_of : ℕ → List ℕ
index_of n = word_of n indices

abbrev pub digits : List (List ℕ)
digits =
    ascii "0" ∷ ascii "1" ∷ ascii "2" ∷ ascii "3" ∷ ascii "4" ∷ ascii "5" ∷ ascii "6" ∷ ascii "7"
    ∷ ascii "8" ∷ ascii "9" ∷ ascii "a" ∷ ascii "b" ∷ ascii "c" ∷ ascii "d" ∷ ascii "e" ∷ ascii "f" ∷ []

unfoldable pub digit_of : ℕ → List ℕ
digit_of n = word_of n digits

-- ---- what stands around the parts of a node

abbrev pub open_of : List ℕ
open_of = ascii "("

abbrev pub closed_of : List ℕ
closed_of = ascii ")"

abbrev pub comma_of : List ℕ
comma_of = ascii ", "

abbrev pub opened_of : ℕ → List ℕ
opened_of o = open_of ++ sign_of o

abbrev pub between_of : ℕ → List ℕ
between_of o = ascii " " ++ (sign_of o ++ ascii " ")

abbrev pub behind_of : ℕ → List ℕ
behind_of i = ascii "[" ++ (index_of i ++ ascii "]")

abbrev pub called_of : ℕ → List ℕ
called_of f = function_of f ++ open_of

-- ---- nodes, from their printed parts

-- a variable's number, below 64: `$` and two hex digits
abbrev pub variable_of : ℕ → List ℕ
variable_of n = ascii "$" ++ (index_of (n / 16) ++ digit_of (n % 16))

abbrev pub name_of : Bool → List ℕ → ℕ → ℕ → List ℕ
name_of numbered text p n = cond numbered (variable_of n) (token_at text p)

abbrev pub unary_of : ℕ → List ℕ → List ℕ
unary_of o e = opened_of o ++ (e ++ closed_of)

abbrev pub binary_of : ℕ → List ℕ → List ℕ → List ℕ
binary_of o l r = open_of ++ (l ++ (between_of o ++ (r ++ closed_of)))

-- `?` is punctuator 0 and `:` punctuator 1
abbrev pub conditional_of : List ℕ → List ℕ → List ℕ → List ℕ
conditional_of c a b = open_of ++ (c ++ (between_of 0 ++ (a ++ (between_of 1 ++ (b ++ closed_of)))))

abbrev pub bare_of : ℕ → List ℕ
bare_of f = called_of f ++ closed_of

abbrev pub call_of : ℕ → List ℕ → List ℕ
call_of f xs = called_of f ++ (xs ++ closed_of)

abbrev pub pick_of : ℕ → List ℕ → List ℕ
pick_of i e = e ++ behind_of i

-- ---- trees

-- A tree over its text, the variables by their numbers or by their names.
unfoldable mutual
  pub shown : Bool → List ℕ → Tree → List ℕ
  shown numbered text (literal p k) = token_at text p
  shown numbered text (variable p n) = name_of numbered text p n
  shown numbered text (unary p o e) = unary_of o (shown numbered text e)
  shown numbered text (binary p o l r) = binary_of o (shown numbered text l) (shown numbered text r)
  shown numbered text (conditional p q c a b) = conditional_of (shown numbered text c) (shown numbered text a) (shown numbered text b)
  shown numbered text (bare p f) = bare_of f
  shown numbered text (call p f xs) = call_of f (shown_all numbered text xs)
  shown numbered text (pick p i e) = pick_of i (shown numbered text e)

  pub shown_all : Bool → List ℕ → Arguments → List ℕ
  shown_all numbered text (last e) = shown numbered text e
  shown_all numbered text (next e q xs) = shown numbered text e ++ (comma_of ++ shown_all numbered text xs)
