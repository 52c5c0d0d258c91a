-- Judgements and answers, taken apart.
use mathlib.Core.Path.{◌≡◌, ap}
use mathlib.Core.Bool.{Bool, true, false}
use Prim.Native.Nat.{ℕ}
use Rattle.lexer.specs.Refusal.{Judged, refused, fine, on_fine}
use Rattle.lexer.specs.declared.refusal.Refusal.{Refusal}
use Rattle.style.specs.Answer.{Answer, refusal, accepted}

abbrev pub is_fine : {A : Type 0} → Judged A → Bool
is_fine (refused r) = false
is_fine (fine a) = true

-- what is judged fine, or another
abbrev pub fine_in : {A : Type 0} → A → Judged A → A
fine_in other (refused r) = other
fine_in other (fine a) = a

abbrev pub refusal_in : {A : Type 0} → Refusal → Judged A → Refusal
refusal_in other (refused r) = r
refusal_in other (fine a) = other

pub on-refused : {A B : Type 0} {j : Judged A} {r : Refusal} (k : A → Judged B) → j ≡ refused r → on_fine j k ≡ refused r
on-refused k h = ap (λ j. on_fine j k) h

pub on_fine_lem : {A B : Type 0} {j : Judged A} {a : A} (k : A → Judged B) → j ≡ fine a → on_fine j k ≡ k a
on_fine_lem k h = ap (λ j. on_fine j k) h

abbrev pub is_accepted : {A : Type 0} → Answer A → Bool
is_accepted (refusal n r) = false
is_accepted (accepted a) = true

abbrev pub accepted_in : {A : Type 0} → A → Answer A → A
accepted_in other (refusal n r) = other
accepted_in other (accepted a) = a

abbrev pub line_of : {A : Type 0} → Answer A → ℕ
line_of (refusal n r) = n
line_of (accepted a) = 0

abbrev pub refusal_of : {A : Type 0} → Refusal → Answer A → Refusal
refusal_of other (refusal n r) = r
refusal_of other (accepted a) = other
