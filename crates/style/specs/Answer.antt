-- What a call answers: page 01, "Refusal numbers" ("0 | accepted"; "A refusal is number, line from 1 (for a strip, the number its caller
-- gives it, over from 1,000,000), place from 0.").
use Rattle.std.specs.Prelude.{ℕ}
use Rattle.lexer.specs.Refusal.{reason_number, Judged, refused, fine}
use Rattle.lexer.specs.declared.refusal.Refusal.{Refusal}

-- a refusal at a line, by its number and place, or what is accepted
pub data Answer (A : Type 0) : Type 0 where
  refusal : ℕ → Refusal → Answer A
  accepted : A → Answer A

abbrev pub number_of : {A : Type 0} → Answer A → ℕ
number_of (refusal line r) = reason_number r.reason
number_of (accepted a) = 0

-- what stands at a line is judged; if it is fine, something goes on from it
abbrev pub on_line : {A B : Type 0} → ℕ → Judged A → (A → Answer B) → Answer B
on_line line (refused r) k = refusal line r
on_line line (fine a) k = k a

-- what goes on from what is accepted
abbrev pub on_accepted : {A B : Type 0} → Answer A → (A → Answer B) → Answer B
on_accepted (refusal line r) k = refusal line r
on_accepted (accepted a) k = k a
