-- What the private functions of the crate work out. No promise of a public function names anything here.
use Rattle.std.specs.Prelude.{cond, ℕ, ◌+◌, ◌-◌, leb, Result, Ok, Err}
use Rattle.lexer.specs.Refusal.{refusal_at}
use Rattle.lexer.specs.Scan.{most_open, bracket_of}
use Rattle.lexer.specs.declared.refusal.Refusal.{Refusal}
use Rattle.lexer.specs.declared.token.Token.{Token}
use Rattle.lexer.specs.declared.scan.Bracket.{Bracket}
use Rattle.lexer.specs.declared.scan.Bracket.TheVariants.{Opens, Closes, Neither}
use Rattle.lexer.specs.declared.refusal.Reason.TheVariants as reason

-- how many brackets are open after one, of n before it, or the place of one too many
abbrev pub changed : Bracket → ℕ → ℕ → Result ℕ Refusal
changed Opens n at = cond (leb most_open n) (Err (refusal_at reason.Brackets at)) (Ok (n + 1))
changed Closes n at = Ok (n - 1)
changed Neither n at = Ok n

abbrev pub next_open : ℕ → Token → ℕ → Result ℕ Refusal
next_open n token at = changed (bracket_of token) n at
