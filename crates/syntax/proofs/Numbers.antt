-- The numbers that the definitions name are those of page 01's spellings, and each symbol has its own.
use mathlib.Core.Path.{◌≡◌, refl}
use mathlib.Core.List.{[], ◌∷◌, ◌++◌, map}
use Prim.Native.Nat.{suc, ◌+◌}
use lib.ListN.{length}
use Rattle.lexer.specs.Bytes.{place_in, ascii}
use Rattle.lexer.specs.Token.{literal_words}
use Rattle.lexer.specs.declared.token.Token.TheVariants.{Number, String, Word}
use Rattle.tree.specs.Tree.{first_word_form, forms}
use Rattle.tree.specs.Slots.{question_tag, colon_tag, operator_tag}
use Rattle.syntax.specs.Symbol.{question, colon, first_index, last_index, other_number, string, first_word, last_literal, word, end, none, number_of, one_of_each, count_from}

-- each symbol has its own number, in this order
pub in_order : map number_of one_of_each ++ (end ∷ none ∷ []) ≡ count_from 0 (suc none)
in_order = refl

-- and these have the names
pub named : map number_of (Number 0 0 ∷ Number 3 0 ∷ Number 4 0 ∷ String ∷ []) ≡ first_index ∷ last_index ∷ other_number ∷ string ∷ []
named = refl

pub named-words : map (λ s. number_of (Word (place_in literal_words (ascii s)))) ("true" ∷ "Infinity" ∷ "vec2" ∷ []) ≡ first_word ∷ last_literal ∷ word ∷ []
named-words = refl

-- the tree's tags of `?` and `:` are those of their numbers, and each literal word has a form
pub tagged : (operator_tag question ≡ question_tag) × (operator_tag colon ≡ colon_tag) × (first_word_form + length literal_words ≡ forms)
tagged = (refl, refl, refl)
