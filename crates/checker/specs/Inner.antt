-- Definitions for private functions.
use Rattle.std.specs.Prelude.{◌≡◌, cond, ltb, Option, Some, None, List, [], ◌∷◌, ℕ, ◌+◌, ◌<◌, ◌≤◌, length, Result, Ok, Err}
use Rattle.lexer.specs.declared.token.Token.{Token}
use Rattle.lexer.specs.declared.token.Token.TheVariants.{Variable}
use Rattle.lexer.specs.declared.refusal.Refusal.{Refusal}
use Rattle.kind.specs.Choice.{held, with_of}
use Rattle.kind.specs.declared.choice.Parts.{Parts}
use Rattle.kind.specs.declared.set.Kinds.{Kinds}

-- the parts that are held, or a refusal
abbrev pub items_of : Result Parts Refusal → Result (List Kinds) Refusal
items_of (Err r) = Err r
items_of (Ok ps) = Ok (held ps)

-- some parts and then any count of others, or the first refusal among these
abbrev pub with_all : List Kinds → List (Result Kinds Refusal) → Result (List Kinds) Refusal
with_all ps [] = Ok ps
with_all ps (Err r ∷ vs) = Err r
with_all ps (Ok s ∷ vs) = with_all (with_of ps s) vs

-- a row, if it is below another
abbrev pub row_below : ℕ → ℕ → Option ℕ
row_below to i = cond (ltb i to) (Some i) None

-- a token stands in a text from a place up to an end; a variable has a name there
pub record Stands (text : List ℕ) (t : Token) (at end : ℕ) : Type 0 where
  pub order : at < end
  pub inside : end ≤ length text
  pub long : t ≡ Variable → at + 3 < end
