-- Literals: page 01, "Tokens and grammar" ("A primary is a number, string, variable, `true`, `false`, `null`, `undefined`, `NaN`,
-- `Infinity`, ..") and what they mean.
use Rattle.std.specs.Prelude.{true, false, cond, List, [], ◌∷◌, ℕ, ◌+◌, ◌-◌, eqb, get_or, Float}
use Rattle.std.specs.Float.{nan, inf}
use Rattle.number.specs.Arithmetic.{nought}
use Rattle.number.specs.Decimal.{value_of}
use Rattle.lexer.specs.Bytes.{place_in}
use Rattle.lexer.specs.Token.{literal_words, lexeme_at}
use Rattle.lexer.specs.declared.token.Token.{Token}
use Rattle.lexer.specs.declared.token.Token.TheVariants as token
use Rattle.lexer.specs.declared.token.Lexeme.{Lexeme}
use Rattle.lexer.specs.declared.token.Lexeme.TheVariants.{Found, Bad, End}
use Rattle.tree.specs.Tree.{number_form, string_form, first_word_form}
use Rattle.value.specs.Value.{nowhere}
use Rattle.syntax.specs.Symbol.{seen, form_of}
use Rattle.value.specs.declared.value.Span.{Span}
use Rattle.value.specs.declared.value.Value.{Value}
use Rattle.value.specs.declared.value.Value.TheVariants.{Undefined, Null, Boolean, Number, String, Vec2, Vec3, Vec4}

-- the value of a number token, and 0 for any other
abbrev pub token_number : Token → Float
token_number (token.Number digits places) = value_of false digits places
token_number token.String = nought
token_number token.Variable = nought
token_number (token.Word k) = nought
token_number (token.Punctuator k) = nought

abbrev pub number_in : Lexeme → Float
number_in (Found t at end) = token_number t
number_in (Bad at end) = nought
number_in End = nought

-- where the text of a string token lies, between its quotes; of anything else there is none
abbrev pub token_span : Token → ℕ → ℕ → Span
token_span (token.Number digits places) at end = nowhere
token_span token.String at end = record { literal = true; start = at + 1; end = end - 1 }
token_span token.Variable at end = nowhere
token_span (token.Word k) at end = nowhere
token_span (token.Punctuator k) at end = nowhere

abbrev pub span_in : Lexeme → Span
span_in (Found t at end) = token_span t at end
span_in (Bad at end) = nowhere
span_in End = nowhere

-- the form that the grammar gives a literal word
abbrev pub form_of_word : List ℕ → ℕ
form_of_word w = form_of (seen (token.Word (place_in literal_words w)) 0 0)

-- `true`, `false`, `null`, `undefined`, `NaN`, `Infinity`
abbrev pub word_values : List Value
word_values = Boolean true ∷ Boolean false ∷ Null ∷ Undefined ∷ Number nan ∷ Number (inf false) ∷ []

-- what a token means as a literal, at a place up to an end; other tokens are none
abbrev pub token_value : Token → ℕ → ℕ → Value
token_value (token.Number digits places) at end = Number (value_of false digits places)
token_value token.String at end = String (token_span token.String at end)
token_value token.Variable at end = Undefined
token_value (token.Word k) at end = get_or word_values k Undefined
token_value (token.Punctuator k) at end = Undefined

-- The value of the literal at a place of the style, by its form.
unfoldable pub literal_at : List ℕ → ℕ → ℕ → Value
unfolding lexeme_at value_of
literal_at style at form =
    cond (eqb form number_form) (Number (number_in (lexeme_at style at)))
    (cond (eqb form string_form) (String (span_in (lexeme_at style at)))
    (get_or word_values (form - first_word_form) Undefined))

-- ---- the literals of a text that lies in the style's

-- the place of a literal's text, so many places further on; any other place is none of the style's
abbrev pub moved_span : ℕ → Span → Span
moved_span base s = cond s.literal (record { literal = true; start = base + s.start; end = base + s.end }) s

-- a String of the style's text, so many places further on; any other value is the same
abbrev pub moved_value : ℕ → Value → Value
moved_value base Undefined = Undefined
moved_value base Null = Null
moved_value base (Boolean b) = Boolean b
moved_value base (Number x) = Number x
moved_value base (String s) = String (moved_span base s)
moved_value base (Vec2 x y) = Vec2 x y
moved_value base (Vec3 x y z) = Vec3 x y z
moved_value base (Vec4 x y z w) = Vec4 x y z w
