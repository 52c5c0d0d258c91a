-- The names of an expression that are unknown: page 01, number 6 of "Refusal numbers".
use Rattle.std.specs.Prelude.{cond, List, [], ◌∷◌, ◌++◌, ℕ, eqb, ltb, length, Option, Some, None}
use Rattle.lexer.specs.Bytes.{place_in, ascii}
use Rattle.lexer.specs.Token.{string_meaning}
use Rattle.colour.specs.Text.{colour_of}
use Rattle.value.specs.Name.{function_names}
use Rattle.tree.specs.Tree.{string_form, Tree, literal, variable, unary, binary, conditional, bare, call, pick, Arguments, last, next}
use Rattle.syntax.specs.Symbol.{symbol_at, indices}
use Rattle.colour.specs.declared.colour.Colour.{Colour}

-- a call at p of the function f, whose number is its place among the names
abbrev pub unknown_function : ℕ → ℕ → List ℕ
unknown_function p f = cond (ltb f (length function_names)) [] (p ∷ [])

abbrev pub unless_named : Option Colour → ℕ → List ℕ
unless_named (Some c) p = []
unless_named None p = p ∷ []

-- what the string at a place means
abbrev pub string_at : List ℕ → ℕ → List ℕ
string_at text q = string_meaning text (symbol_at text q).at (symbol_at text q).end

-- the first argument of a `color` at p: a string literal is unknown at its own place, and anything else is placed at the word
abbrev pub unknown_literal : List ℕ → ℕ → ℕ → ℕ → List ℕ
unknown_literal text p q form = cond (eqb form string_form) (unless_named (colour_of (string_at text q)) q) (p ∷ [])

abbrev pub unknown_colour : List ℕ → ℕ → Tree → List ℕ
unknown_colour text p (literal q k) = unknown_literal text p q k
unknown_colour text p (variable q n) = p ∷ []
unknown_colour text p (unary q o e) = p ∷ []
unknown_colour text p (binary q o l r) = p ∷ []
unknown_colour text p (conditional q z c a b) = p ∷ []
unknown_colour text p (bare q f) = p ∷ []
unknown_colour text p (call q f xs) = p ∷ []
unknown_colour text p (pick q i e) = p ∷ []

abbrev pub first : Arguments → Tree
first (last e) = e
first (next e q xs) = e

abbrev pub color : ℕ
color = place_in function_names (ascii "color")

-- a call at p of the function f, with its first argument
abbrev pub unknown_call : List ℕ → ℕ → ℕ → Tree → List ℕ
unknown_call text p f e = cond (eqb f color) (unknown_colour text p e) (unknown_function p f)

-- an unknown member is placed at its word, which follows the dot
abbrev pub unknown_member : List ℕ → ℕ → ℕ → List ℕ
unknown_member text p i = cond (ltb i indices) [] ((symbol_at text (symbol_at text p).end).at ∷ [])

-- the places of all unknown names
unfoldable mutual
  pub unknown_in : List ℕ → Tree → List ℕ
  unknown_in text (literal p k) = []
  unknown_in text (variable p n) = []
  unknown_in text (unary p o e) = unknown_in text e
  unknown_in text (binary p o l r) = unknown_in text l ++ unknown_in text r
  unknown_in text (conditional p q c a b) = unknown_in text c ++ (unknown_in text a ++ unknown_in text b)
  unknown_in text (bare p f) = unknown_function p f
  unknown_in text (call p f xs) = unknown_call text p f (first xs) ++ unknown_in_all text xs
  unknown_in text (pick p i e) = unknown_in text e ++ unknown_member text p i

  pub unknown_in_all : List ℕ → Arguments → List ℕ
  unknown_in_all text (last e) = unknown_in text e
  unknown_in_all text (next e q xs) = unknown_in text e ++ unknown_in_all text xs

-- "of several the leftmost counts"
abbrev pub lesser : ℕ → Option ℕ → Option ℕ
lesser p None = Some p
lesser p (Some q) = cond (ltb q p) (Some q) (Some p)

abbrev pub leftmost_of : List ℕ → Option ℕ
leftmost_of [] = None
leftmost_of (p ∷ ps) = lesser p (leftmost_of ps)
