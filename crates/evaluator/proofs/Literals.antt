-- What each literal word is; a literal's value is that of its token, and of the kind that the checker gives its form; and it depends only
-- on the style's bytes from its place on, but for a string's place.
use mathlib.Core.Path.{◌≡◌, refl, ◌∙◌, ap}
use mathlib.Core.Bool.{true, false}
use mathlib.Core.List.{List, [], ◌∷◌, map}
use Prim.Native.Nat.{ℕ, zero, suc, ◌+◌, ◌-◌, ◌<◌}
use native.Mathlib.Nat.{add_assoc, add-sub_cancel_left, suc-sub-suc, sub-zero}
use native.Mathlib.Omega.{arith}
use borrow.Author.Tests.{ne_eqb}
use lib.Dec.{eqb-suc-zero, eqb-suc-suc}
use lib.Ieee.{nan, inf}
use lib.ListN.{length, get_or, drop}
use Rattle.kind.specs.declared.kind.Kind.TheVariants as kind
use Rattle.lexer.specs.Token.{literal_words, lexeme_at}
use Rattle.lexer.specs.Tokens.{placed}
use Rattle.lexer.specs.declared.token.Token.{Token}
use Rattle.lexer.specs.declared.token.Token.TheVariants as token
use Rattle.lexer.specs.declared.token.Lexeme.{Lexeme}
use Rattle.lexer.specs.declared.token.Lexeme.TheVariants.{Found, Bad, End}
use Rattle.lexer.proofs.Law.Ahead.{Ahead, ahead}
use Rattle.lexer.proofs.Moved.{moved, lexeme-moved}
use Rattle.value.specs.Value.{kind_of}
use Rattle.value.specs.declared.value.Value.{Value}
use Rattle.value.specs.declared.value.Value.TheVariants.{Undefined, Null, Boolean, Number, String}
use Rattle.syntax.specs.Anchored.{IsLiteral, Read}
use Rattle.syntax.specs.Anchored as anchored
use Rattle.checker.specs.Kinds.{literal_kind}
use Rattle.evaluator.specs.Literal.{number_in, token_span, span_in, word_values, token_value, form_of_word, literal_at, moved_span, moved_value}

-- ---- the literal words

-- page 01's literal words, the kind of each and its value, which is the same wherever it stands
pub literal-words : (style : List ℕ) (p : ℕ) →
    (map (λ w. literal_kind (form_of_word w)) literal_words ≡
    kind.Boolean ∷ kind.Boolean ∷ kind.Null ∷ kind.Undefined ∷ kind.Number ∷ kind.Number ∷ []) ×
    (map (λ w. literal_at style p (form_of_word w)) literal_words ≡
    Boolean true ∷ Boolean false ∷ Null ∷ Undefined ∷ Number nan ∷ Number (inf false) ∷ [])
unfolding literal_at
literal-words style p = (refl, refl)

-- ---- the token of a literal

-- A literal is worth what the token at its place means: `judged-anchored` of the crate `syntax` finds it there.
pub literal-token : (style : List ℕ) (p until : ℕ) {t : Token} {k : ℕ} → IsLiteral t k → Read style (placed t p until ∷ []) →
    literal_at style p k ≡ token_value t p until
unfolding literal_at
literal-token style p until (anchored.number digits places) h = rw h.0
literal-token style p until anchored.string h = rw h.0
literal-token style p until (anchored.word k l) h = rw (ne_eqb (2 + k) 0 (omega arith), ne_eqb (2 + k) 1 (omega arith), add-sub_cancel_left 2 k)

-- ---- kinds

-- a value of a list is of the kind at its place among the values' kinds
kind_at : (vs : List Value) (n : ℕ) → kind_of (get_or vs n Undefined) ≡ get_or (map kind_of vs) n kind.Undefined
kind_at [] n = refl
kind_at (v ∷ vs) zero = refl
kind_at (v ∷ vs) (suc n) = kind_at vs n

-- a number, a string, and from 2 on the literal words
pub literal-kind : (style : List ℕ) (p k : ℕ) → kind_of (literal_at style p k) ≡ literal_kind k
unfolding literal_at
literal-kind style p zero = refl
literal-kind style p (suc zero) = refl
literal-kind style p (suc (suc k)) =
    rw (eqb-suc-zero (suc k), eqb-suc-suc (suc k) 0, eqb-suc-zero k, suc-sub-suc (suc k) 1, suc-sub-suc k 0, sub-zero k) (kind_at word_values k)

-- ---- a text that stands so many places further on

number-moved : (base : ℕ) (x : Lexeme) → number_in (moved base x) ≡ number_in x
number-moved base (Found t at end) = refl
number-moved base (Bad at end) = refl
number-moved base End = refl

-- a token has a byte at least, so its last one can be left out at either place
token-moved : (base at end : ℕ) (t : Token) → at < end → token_span t (base + at) (base + end) ≡ moved_span base (token_span t at end)
token-moved base at end (token.Number digits places) h = refl
token-moved base at end token.String h =
    let e : base + end - 1 ≡ base + (end - 1) = omega arith in
    (λ i. record { literal = true; start = add_assoc base at 1 i; end = e i })
token-moved base at end token.Variable h = refl
token-moved base at end (token.Word k) h = refl
token-moved base at end (token.Punctuator k) h = refl

span-moved : (base from limit : ℕ) (x : Lexeme) → Ahead from limit x → span_in (moved base x) ≡ moved_span base (span_in x)
span-moved base from limit (Found t at end) h = token-moved base at end t h.goes
span-moved base from limit (Bad at end) h = refl
span-moved base from limit End h = refl

-- no literal word is a String
word_moved : (base k : ℕ) → get_or word_values k Undefined ≡ moved_value base (get_or word_values k Undefined)
word_moved base zero = refl
word_moved base (suc zero) = refl
word_moved base (suc (suc zero)) = refl
word_moved base (suc (suc (suc zero))) = refl
word_moved base (suc (suc (suc (suc zero)))) = refl
word_moved base (suc (suc (suc (suc (suc zero))))) = refl
word_moved base (suc (suc (suc (suc (suc (suc k)))))) = refl

-- A literal is worth the same wherever its text stands, but for a string's place.
pub literal-moved : (style : List ℕ) (base p k : ℕ) → literal_at style (base + p) k ≡ moved_value base (literal_at (drop base style) p k)
unfolding literal_at
literal-moved style base p zero =
    ap (λ (x : Lexeme). Number (number_in x)) (lexeme-moved style base p) ∙ ap Number (number-moved base (lexeme_at (drop base style) p))
literal-moved style base p (suc zero) =
    ap (λ (x : Lexeme). String (span_in x)) (lexeme-moved style base p)
    ∙ ap String (span-moved base p (length (drop base style)) (lexeme_at (drop base style) p) (ahead (drop base style) p))
literal-moved style base p (suc (suc k)) =
    rw (eqb-suc-zero (suc k), eqb-suc-suc (suc k) 0, eqb-suc-zero k, suc-sub-suc (suc k) 1, suc-sub-suc k 0, sub-zero k) (word_moved base k)
