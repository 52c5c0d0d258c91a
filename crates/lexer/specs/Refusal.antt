-- Refusals: page 01, "Refusal numbers". "A refusal is number, line from 1 .., place from 0"; the line is added by whoever reads lines.
use Rattle.std.specs.Prelude.{ℕ}
use Rattle.lexer.specs.declared.refusal.Reason.{Reason}
use Rattle.lexer.specs.declared.refusal.Reason.TheVariants.{Size, Token, Brackets, Grammar, Height, Name, Kinds, Line, Feature, Room}
use Rattle.lexer.specs.declared.refusal.Refusal.{Refusal}

-- the rows of the table by their numbers
abbrev pub reason_number : Reason → ℕ
reason_number Size = 1
reason_number Token = 2
reason_number Brackets = 3
reason_number Grammar = 4
reason_number Height = 5
reason_number Name = 6
reason_number Kinds = 7
reason_number Line = 8
reason_number Feature = 9
reason_number Room = 10

abbrev pub refusal_at : Reason → ℕ → Refusal
refusal_at why p = record { reason = why; place = p }

-- what page 01 says of a text: a refusal, or nothing against it, with what is given then
pub data Judged (A : Type 0) : Type 0 where
  refused : Refusal → Judged A
  fine : A → Judged A

-- "0 | accepted"
abbrev pub number_of : {A : Type 0} → Judged A → ℕ
number_of (refused r) = reason_number r.reason
number_of (fine a) = 0

-- what is judged next, where nothing is against it
abbrev pub on_fine : {A B : Type 0} → Judged A → (A → Judged B) → Judged B
on_fine (refused r) next = refused r
on_fine (fine a) next = next a
