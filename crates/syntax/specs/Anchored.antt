-- Which tokens the nodes of a tree are read from: page 01, "Tokens and grammar". A tree has the places of its tokens and not the tokens
-- themselves: a literal's value, a name and a colour are read again at the node's place. This is what has to stand there.
use Rattle.std.specs.Prelude.{◌≡◌, List, [], ◌∷◌, ◌++◌, ℕ, ◌+◌, ◌<◌, ◌≤◌, length}
use Rattle.std.proofs.Math.Seq.{slice}
use Rattle.lexer.specs.Bytes.{place_in}
use Rattle.lexer.specs.Token.{literal_words, lexeme_at}
use Rattle.lexer.specs.Tokens.{Placed, placed}
use Rattle.lexer.specs.declared.token.Token.{Token}
use Rattle.lexer.specs.declared.token.Token.TheVariants.{Number, String, Variable, Word, Punctuator}
use Rattle.lexer.specs.declared.token.Lexeme.TheVariants.{Found}
use Rattle.value.specs.Name.{function_names, member_index}
use Rattle.tree.specs.Tree.{number_form, string_form, first_word_form}
use Rattle.tree.specs.Tree.{Tree, literal, variable, unary, binary, conditional, bare, call, pick, Arguments, last, next}
use Rattle.syntax.specs.Symbol.{question, colon, open_round, open_square, close_square, comma, dot, indices}

-- ---- tokens one after another

-- among some tokens
abbrev pub Among : List Placed → List Placed → Type 0
Among ts us = (before after : List Placed) × (ts ≡ before ++ us ++ after)

-- as a text is read, from a place on
abbrev pub ReadFrom : List ℕ → ℕ → List Placed → Type 0
ReadFrom text from [] = Unit {0}
ReadFrom text from (placed t at until ∷ us) = (lexeme_at text from ≡ Found t at until) × ReadFrom text until us

-- from the place of the first one on
abbrev pub Read : List ℕ → List Placed → Type 0
Read text [] = Unit {0}
Read text (placed t at until ∷ us) = ReadFrom text at (placed t at until ∷ us)

-- ---- the tokens of a node

-- a literal of each form
pub data IsLiteral : Token → ℕ → Type 0 where
  number : (digits places : ℕ) → IsLiteral (Number digits places) number_form
  string : IsLiteral String string_form
  word : (k : ℕ) → k < length literal_words → IsLiteral (Word k) (first_word_form + k)

-- Stand says of tokens that they are there, one after another.
module _ (text : List ℕ) (Stand : List Placed → Type 0) where
  abbrev pub At : Token → ℕ → Type 0
  At t p = (until : ℕ) × Stand (placed t p until ∷ [])

  -- the word at p that names the function f, and the bracket behind it; "the literal words below never name a function"
  pub record Called (p f : ℕ) : Type 0 where
    pub number : ℕ
    pub until : ℕ
    pub bracket : ℕ
    pub end : ℕ
    pub stand : Stand (placed (Word number) p until ∷ placed (Punctuator open_round) bracket end ∷ [])
    pub named : f ≡ place_in function_names (slice p until text)
    pub other : length literal_words ≤ number

  -- "A pick is `.` and a word, or `[0]` to `[3]`, the index one digit."
  pub data Picked (p : ℕ) : ℕ → Type 0 where
    member : (k end at until : ℕ) →
        Stand (placed (Punctuator dot) p end ∷ placed (Word k) at until ∷ []) →
        Picked p (member_index (slice at until text))
    index : (i end at until close closed : ℕ) →
        i < indices →
        Stand (placed (Punctuator open_square) p end ∷ placed (Number i 0) at until ∷ placed (Punctuator close_square) close closed ∷ []) →
        Picked p i

  -- ---- the tokens of a tree

  unfoldable mutual
    pub Anchored : Tree → Type 0
    Anchored (literal p k) = (t : Token) × IsLiteral t k × At t p
    Anchored (variable p n) = At Variable p
    Anchored (unary p o e) = At (Punctuator o) p × Anchored e
    Anchored (binary p o l r) = At (Punctuator o) p × Anchored l × Anchored r
    Anchored (conditional p q c a b) = At (Punctuator question) p × At (Punctuator colon) q × Anchored c × Anchored a × Anchored b
    Anchored (bare p f) = Called p f
    Anchored (call p f xs) = Called p f × AnchoredAll xs
    Anchored (pick p i e) = Picked p i × Anchored e

    pub AnchoredAll : Arguments → Type 0
    AnchoredAll (last e) = Anchored e
    AnchoredAll (next e q xs) = Anchored e × At (Punctuator comma) q × AnchoredAll xs
