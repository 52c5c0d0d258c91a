-- Names and the numbers that they are resolved to: page 01, "Sizes" and "Kinds and meaning" ("In `show`, `color` and `cond` a define hides
-- a property of its name; inside a define every name is a property.").
use Rattle.std.specs.Prelude.{Bool, true, false, cond, List, ℕ, zero, suc, ◌+◌, ◌-◌, ltb, length, get_or}
use Rattle.std.proofs.Math.Seq.{slice}
use Rattle.lexer.specs.Bytes.{same}
use Rattle.lexer.specs.Token.{lexeme_at}
use Rattle.lexer.specs.declared.token.Token.{Token}
use Rattle.lexer.specs.declared.token.Token.TheVariants.{Number, String, Variable, Word, Punctuator}
use Rattle.lexer.specs.declared.token.Lexeme.{Lexeme}
use Rattle.lexer.specs.declared.token.Lexeme.TheVariants.{Found, Bad, End}
use Rattle.plan.specs.Layout.{most_properties, most_defines, first_define, undeclared}
use Rattle.plan.specs.Layout as layout
use Rattle.tree.specs.Tree.{Tree, literal, variable, unary, binary, conditional, bare, call, pick, Arguments, last, next}
use Rattle.tree.specs.Slots.{put, variable_tag}
use Rattle.checker.specs.declared.name.Scope.{Scope}
use Rattle.checker.specs.declared.name.Scope.TheVariants.{Define, Style}

-- ---- a variable's name

-- "A variable is `${`, a name, `}`": the name of one that stands from a place up to an end
abbrev pub name_in : List ℕ → ℕ → ℕ → List ℕ
name_in text at end = slice (at + 2) (end - 1) text

abbrev pub end_of : Lexeme → ℕ
end_of (Found t at end) = end
end_of (Bad at end) = end
end_of End = 0

-- the name of the variable at a place
unfoldable pub name_at : List ℕ → ℕ → List ℕ
unfolding lexeme_at
name_at text at = name_in text at (end_of (lexeme_at text at))

-- ---- the numbers of names

-- A name that has a number is known by where it lies in the head; one that is not used is empty.
abbrev pub row_at : List ℕ → List ℕ → ℕ → List ℕ
row_at head names i = slice (get_or names (layout.start_of i) 0) (get_or names (layout.end_of i) 0) head

-- the first of n rows from i on that is as asked, or the row behind them
unfoldable pub first_row : (ℕ → Bool) → ℕ → ℕ → ℕ
first_row p zero i = i
first_row p (suc n) i = elim (p i) [ true ↦ i | false ↦ first_row p n (suc i) ]

-- a property's row, or none for an undeclared name
unfoldable pub property_row : (ℕ → Bool) → ℕ
unfolding first_row
property_row p = let i = first_row p most_properties 0 in cond (ltb i most_properties) i undeclared

-- "inside a define every name is a property"; elsewhere "a define hides a property of its name"
unfoldable pub row_in : Scope → (ℕ → Bool) → ℕ
unfolding first_row property_row
row_in Define p = property_row p
row_in Style p = let i = first_row p most_defines first_define in cond (ltb i undeclared) i (property_row p)

-- the number of a name is that of its row
abbrev pub number_of : Scope → List ℕ → List ℕ → List ℕ → ℕ
number_of scope head names name = row_in scope (λ i. same name (row_at head names i))

-- ---- every variable of a text gets its name's number

-- in the slot of a token, if it is a variable
abbrev pub numbered : (List ℕ → ℕ) → List ℕ → Token → ℕ → ℕ → List ℕ → List ℕ
numbered number text (Number digits places) at end w = w
numbered number text String at end w = w
numbered number text Variable at end w = put w at variable_tag (number (name_in text at end))
numbered number text (Word k) at end w = w
numbered number text (Punctuator k) at end w = w

-- the slots after n tokens from a place on
abbrev pub onward : (List ℕ → ℕ) → List ℕ → Lexeme → List ℕ → (ℕ → List ℕ → List ℕ) → List ℕ
onward number text (Found t at end) w rest = rest end (numbered number text t at end w)
onward number text (Bad at end) w rest = w
onward number text End w rest = w

unfoldable pub resolved_from : (List ℕ → ℕ) → List ℕ → ℕ → ℕ → List ℕ → List ℕ
unfolding lexeme_at
resolved_from number text zero from w = w
resolved_from number text (suc n) from w = onward number text (lexeme_at text from) w (resolved_from number text n)

-- The slots after all tokens: a text has no more of them than bytes.
abbrev pub resolved_slots : (List ℕ → ℕ) → List ℕ → List ℕ → List ℕ
resolved_slots number text w = resolved_from number text (length text) 0 w

-- ---- the same of a tree

-- each variable with the number that is given for its place
unfoldable mutual
  pub resolved : (ℕ → ℕ) → Tree → Tree
  resolved number (literal p k) = literal p k
  resolved number (variable p n) = variable p (number p)
  resolved number (unary p o e) = unary p o (resolved number e)
  resolved number (binary p o l r) = binary p o (resolved number l) (resolved number r)
  resolved number (conditional p q c a b) = conditional p q (resolved number c) (resolved number a) (resolved number b)
  resolved number (bare p f) = bare p f
  resolved number (call p f xs) = call p f (resolved_all number xs)
  resolved number (pick p i e) = pick p i (resolved number e)

  pub resolved_all : (ℕ → ℕ) → Arguments → Arguments
  resolved_all number (last e) = last (resolved number e)
  resolved_all number (next e q xs) = next (resolved number e) q (resolved_all number xs)
