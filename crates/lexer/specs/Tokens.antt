-- The tokens of a text: page 01, "Tokens and grammar".
use Rattle.std.specs.Prelude.{List, [], ◌∷◌, ℕ, zero, suc, length}
use Rattle.lexer.specs.Token.{lexeme_at}
use Rattle.lexer.specs.declared.token.Token.{Token}
use Rattle.lexer.specs.declared.token.Lexeme.{Lexeme}
use Rattle.lexer.specs.declared.token.Lexeme.TheVariants.{Found, Bad, End}

-- a token, its place and its end
pub data Placed : Type 0 where
  placed : Token → ℕ → ℕ → Placed

abbrev pub token_of : Placed → Token
token_of (placed t at end) = t

-- the tokens of a text, or its first bad place
pub data Lexed : Type 0 where
  tokens : List Placed → Lexed
  bad_at : ℕ → Lexed

abbrev pub after : Placed → Lexed → Lexed
after t (tokens ts) = tokens (t ∷ ts)
after t (bad_at p) = bad_at p

-- what stands at a place, and then the rest from its end on
abbrev pub onward : Lexeme → (ℕ → Lexed) → Lexed
onward (Found t at end) rest = after (placed t at end) (rest end)
onward (Bad at end) rest = bad_at at
onward End rest = tokens []

-- at most f tokens from a place on
unfoldable pub tokens_in : ℕ → List ℕ → ℕ → Lexed
unfolding lexeme_at
tokens_in zero text from = tokens []
tokens_in (suc f) text from = onward (lexeme_at text from) (tokens_in f text)

-- The tokens from a place on. A token takes a byte at least, so a text has no more of them than bytes: `on-demand` in proofs/OnDemand.antt.
unfoldable pub tokens_from : List ℕ → ℕ → Lexed
unfolding tokens_in
tokens_from text from = tokens_in (suc (length text)) text from

abbrev pub tokens_of : List ℕ → Lexed
tokens_of text = tokens_from text 0
