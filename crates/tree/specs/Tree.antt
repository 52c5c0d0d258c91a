-- The tree of an expression: page 01, "Tokens and grammar". Each node has its place, the byte offset in the expression of its token.
use Rattle.std.specs.Prelude.{ℕ}

-- The forms of a literal: "a number, string, .. `true`, `false`, `null`, `undefined`, `NaN`, `Infinity`". The literal words have the forms
-- from the first one on, in this order.
abbrev pub number_form : ℕ
number_form = 0

abbrev pub string_form : ℕ
string_form = 1

abbrev pub first_word_form : ℕ
first_word_form = 2

-- how many there are
abbrev pub forms : ℕ
forms = 8

mutual
  pub data Tree : Type 0 where
    -- a number, a string or a literal word, by its form
    literal : ℕ → ℕ → Tree
    -- a variable, with the number that its name stands for; 0 until someone has looked the name up
    variable : ℕ → ℕ → Tree
    -- an operator by its punctuator's number, and its operands
    unary : ℕ → ℕ → Tree → Tree
    binary : ℕ → ℕ → Tree → Tree → Tree
    -- the places of `?` and of `:`, the test and the two branches
    conditional : ℕ → ℕ → Tree → Tree → Tree → Tree
    -- a call, without arguments or with some: the word's place, and the function's number
    bare : ℕ → ℕ → Tree
    call : ℕ → ℕ → Arguments → Tree
    -- `.` or `[`, and the index of the component that is picked
    pick : ℕ → ℕ → Tree → Tree

  pub data Arguments : Type 0 where
    last : Tree → Arguments
    -- an argument, the place of the comma after it, and the others
    next : Tree → ℕ → Arguments → Arguments

abbrev pub place : Tree → ℕ
place (literal p k) = p
place (variable p n) = p
place (unary p o e) = p
place (binary p o l r) = p
place (conditional p q c a b) = p
place (bare p f) = p
place (call p f xs) = p
place (pick p i e) = p
