-- The place of a refusal 4: page 01, "Refusal numbers": "first token no right expression can have there, or the end".
use Rattle.std.specs.Prelude.{◌≡◌, List, [], ◌∷◌, ◌++◌, map, ℕ, ◌≤◌, length}
use Rattle.lexer.specs.Tokens.{Placed, placed, token_of, tokens, tokens_of}
use Rattle.lexer.specs.Refusal as judged
use Rattle.lexer.specs.Scan.{scan_of}
use Rattle.tree.specs.Tree.{Tree}
use Rattle.syntax.specs.Sizes.{most_bytes}
use Rattle.syntax.specs.Symbol.{number_of, seen}
use Rattle.syntax.specs.Grammar.{expression, Derives}
use Rattle.syntax.specs.declared.symbol.Symbol.{Symbol}

abbrev pub symbol_in : Placed → Symbol
symbol_in (placed t at until) = seen t at until

-- what the grammar sees of tokens
abbrev pub symbols_of : List Placed → List Symbol
symbols_of ts = map symbol_in ts

-- all that matters of them for being right: `places-free` in proofs/Grammar/Places.antt
abbrev pub numbers_of : List Placed → List ℕ
numbers_of ts = map (λ t. number_of (token_of t)) ts

module _ (text : List ℕ) where
  -- a right expression
  abbrev pub Right : List Placed → Type 0
  Right ts = (e : Tree) × Derives text expression (symbols_of ts) e

  -- some right expression begins with these tokens
  abbrev pub Begins : List Placed → Type 0
  Begins ts = (us : List Placed) × Right (ts ++ us)

  -- "no right expression can have" the first of the rest "there"; where nothing is left, the tokens are no right expression
  abbrev pub Never : List Placed → List Placed → Type 0
  Never ts [] = Right ts → ⊥
  Never ts (u ∷ us) = Begins (ts ++ (u ∷ [])) → ⊥

  -- the tokens are refused where the rest is left
  pub record Refused (ts rest : List Placed) : Type 0 where
    pub taken : List Placed
    pub are : ts ≡ taken ++ rest
    pub begins : Begins taken
    pub never : Never taken rest

  -- the "first token" of the rest, "or the end"
  abbrev pub place_of : List Placed → ℕ
  place_of [] = length text
  place_of (placed t at until ∷ ts) = at

  abbrev pub RefusedAt : List Placed → ℕ → Type 0
  RefusedAt ts place = (rest : List Placed) × Refused ts rest × (place ≡ place_of rest)

  -- The checks before the grammar's are passed, 1 by the size and 2 and 3 by the scan, and these are the tokens.
  pub record Scanned (ts : List Placed) : Type 0 where
    pub short : length text ≤ most_bytes
    pub fine : scan_of text ≡ judged.fine tt
    pub lexed : tokens_of text ≡ tokens ts

-- a text that is a right expression, of tokens with these numbers
pub record RightText (numbers : List ℕ) : Type 0 where
  pub text : List ℕ
  pub ts : List Placed
  pub lexed : tokens_of text ≡ tokens ts
  pub numbered : numbers_of ts ≡ numbers
  pub right : Right text ts
