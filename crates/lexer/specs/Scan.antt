-- Refusals 2 and 3 of a text: page 01, "Refusal numbers" and "Sizes".
use Rattle.std.specs.Prelude.{true, false, cond, List, [], ◌∷◌, ℕ, suc, ◌-◌, eqb, ltb, Result, Ok, Err}
use Rattle.lexer.specs.Punctuator.{open_round, close_round}
use Rattle.lexer.specs.Refusal.{refusal_at, Judged, refused, fine}
use Rattle.lexer.specs.Tokens.{Placed, placed, Lexed, tokens, bad_at, tokens_from, tokens_of}
use Rattle.lexer.specs.declared.token.Token.{Token}
use Rattle.lexer.specs.declared.token.Token.TheVariants.{Number, String, Variable, Word, Punctuator}
use Rattle.lexer.specs.declared.scan.Bracket.{Bracket}
use Rattle.lexer.specs.declared.scan.Bracket.TheVariants.{Opens, Closes, Neither}
use Rattle.lexer.specs.declared.refusal.Refusal.{Refusal}
use Rattle.lexer.specs.declared.refusal.Reason.TheVariants as reason

abbrev pub punctuator_bracket : ℕ → Bracket
punctuator_bracket k = cond (eqb k open_round) Opens (cond (eqb k close_round) Closes Neither)

-- what a token does to the round brackets that are open
abbrev pub bracket_of : Token → Bracket
bracket_of (Number n k) = Neither
bracket_of String = Neither
bracket_of Variable = Neither
bracket_of (Word k) = Neither
bracket_of (Punctuator k) = punctuator_bracket k

-- "32 round brackets open at once"
abbrev pub most_open : ℕ
most_open = 32

-- "a `)` with none open changes nothing": where the first bracket stands that is one too many, when n are open before these tokens
unfoldable pub brackets_in : ℕ → List Placed → Judged (Unit {0})
brackets_in n [] = fine tt
brackets_in n (placed t at end ∷ ts) = elim (bracket_of t) [
  | Opens ↦ elim (ltb n most_open) [ true ↦ brackets_in (suc n) ts | false ↦ refused (refusal_at reason.Brackets at) ]
  | Closes ↦ brackets_in (n - 1) ts
  | Neither ↦ brackets_in n ts
]

-- 2 over the whole text before 3
abbrev pub verdict_of : Lexed → Judged (Unit {0})
verdict_of (tokens ts) = brackets_in 0 ts
verdict_of (bad_at p) = refused (refusal_at reason.Token p)

unfoldable pub scan_of : List ℕ → Judged (Unit {0})
unfolding tokens_from brackets_in
scan_of text = verdict_of (tokens_of text)

-- what the answer of `scan` says
abbrev pub answer_of : Result (Unit {0}) Refusal → Judged (Unit {0})
answer_of (Ok tt) = fine tt
answer_of (Err r) = refused r
