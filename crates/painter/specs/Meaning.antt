-- What the expressions of a style come to for the values of a feature, and what the style gives it: page 01, "What the painter reads",
-- "Kinds and meaning" and "What each answer owes".
use Rattle.std.specs.Prelude.{cond, List, [], ◌∷◌, ◌++◌, ℕ, ◌+◌, length, Option, Some}
use Rattle.lexer.specs.Bytes.{same}
use Rattle.value.specs.Value.{text_in}
use Rattle.value.specs.declared.value.Span.{Span}
use Rattle.value.specs.declared.value.Value.{Value}
use Rattle.value.specs.declared.value.Value.TheVariants.{Undefined}
use Rattle.checker.specs.Name.{name_at}
use Rattle.evaluator.specs.Literal.{literal_at, moved_value}
use Rattle.evaluator.specs.Eval.{value_in, Context, eval_of}
use Rattle.style.specs.Style.{Declared, Expression, Define, Style}
use Rattle.painter.specs.Given.{given_by}
use Rattle.painter.specs.declared.answer.Given.{Given}

-- ---- names

-- a property by its name: there is a value for each, in their order
abbrev pub property_value : List Declared → List Value → List ℕ → Value
property_value [] vs x = Undefined
property_value (d ∷ ds) [] x = Undefined
property_value (d ∷ ds) (v ∷ vs) x = cond (same x d.name) v (property_value ds vs x)

abbrev pub property_outcome : Style → List Value → List ℕ → Option Value
property_outcome s vs x = Some (property_value s.properties vs x)

-- an expression is worked out by the bytes of strings and by what its names come to; its text begins at a base of the text that strings
-- lie in
abbrev pub context_at : (Span → List ℕ) → ℕ → (List ℕ → Option Value) → Expression → Context
context_at strings base names e = record {
  text = strings;
  literals = λ p k. moved_value base (literal_at e.text p k);
  variables = λ p n. names (name_at e.text p);
}

abbrev pub expression_at : (Span → List ℕ) → ℕ → (List ℕ → Option Value) → Expression → Option Value
expression_at strings base names e = eval_of (context_at strings base names e) e.tree

-- something of the define of a name, by the base of its text, or of a name that is no define's: "In `show`, `color` and `cond` a define
-- hides a property of its name"
abbrev pub by_define : {A : Type 0} → (ℕ → Expression → A) → ℕ → List Define → A → List ℕ → A
by_define of base [] other x = other
by_define of base (d ∷ ds) other x =
    cond (same x d.name) (of base d.expression) (by_define of (base + length d.expression.text) ds other x)

-- "inside a define every name is a property"
abbrev pub defined_outcome : (Span → List ℕ) → ℕ → List Define → (List ℕ → Option Value) → List ℕ → Option Value
defined_outcome strings base ds properties x = by_define (λ base e. expression_at strings base properties e) base ds (properties x) x

-- ---- an expression of the style

abbrev pub defines_text : List Define → List ℕ
defines_text [] = []
defines_text (d ∷ ds) = d.expression.text ++ defines_text ds

-- Its strings lie in one text with those of the defines that it may name: that of the defines' expressions, one after another, and behind
-- it its own.
abbrev pub strings_of : Style → List ℕ → Expression → Span → List ℕ
strings_of s feature e = text_in (defines_text s.defines ++ e.text) feature

-- what a name comes to in it
abbrev pub name_outcome : Style → List ℕ → List Value → Expression → List ℕ → Option Value
name_outcome s feature vs e x = defined_outcome (strings_of s feature e) 0 s.defines (property_outcome s vs) x

-- its own text begins behind the defines'
abbrev pub own_base : Style → ℕ
own_base s = length (defines_text s.defines)

unfoldable pub outcome_of : Style → List ℕ → List Value → Expression → Option Value
unfolding text_in name_at literal_at eval_of
outcome_of s feature vs e = expression_at (strings_of s feature e) (own_base s) (name_outcome s feature vs e) e

abbrev pub value_of : Style → List ℕ → List Value → Expression → Value
value_of s feature vs e = value_in (outcome_of s feature vs e)

-- what it gives
abbrev pub given_of : Style → List ℕ → List Value → Given
given_of s feature vs = given_by (value_of s feature vs) s.shows s.colours s.conditions
