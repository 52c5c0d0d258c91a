-- A head: page 01, "Refusal numbers" ("Order: 10; size of the head; then the head's lines in turn"; "For 10, where no line is read, line
-- is 0.") and "Sizes".
use Rattle.std.specs.Prelude.{cond, List, [], ◌∷◌, ℕ, suc, ltb, length, replicate, Result, Ok, Err}
use Rattle.lexer.specs.Refusal.{refusal_at}
use Rattle.lexer.specs.declared.refusal.Reason.TheVariants as reason
use Rattle.text.specs.Parts.{lines}
use Rattle.style.specs.Answer.{Answer, refusal, accepted, on_line, on_accepted}
use Rattle.style.specs.Style.{Style, empty, with}
use Rattle.style.specs.Item.{line_said}
use Rattle.style.specs.declared.check.LineRefusal.{LineRefusal}

-- lines in turn, from a number on, behind those that have given a style
abbrev pub head_from : ℕ → Style → List (List ℕ) → Answer Style
head_from n s [] = accepted s
head_from n s (l ∷ ls) = on_line n (line_said s l) (λ e. head_from (suc n) (with s e) ls)

unfoldable pub head_of : List ℕ → Answer Style
unfolding line_said
head_of head = head_from 1 empty (lines head)

-- ---- what the call answers, and what it leaves in the room

-- page 01's number, line and place for each case
abbrev pub answer_of : Result (Unit {0}) LineRefusal → Answer (Unit {0})
answer_of (Err r) = refusal r.line r.refusal
answer_of (Ok tt) = accepted tt

-- "Head 32,768 bytes"
abbrev pub head_size : ℕ
head_size = 32768

-- the one size of the room, in slots of two bytes: one for each byte of the longest head
abbrev pub room_size : ℕ
room_size = head_size

-- before any line is read
abbrev pub short_room : {A : Type 0} → Answer A
short_room = refusal 0 (refusal_at reason.Room 0)

abbrev pub long_head : {A : Type 0} → Answer A
long_head = refusal 0 (refusal_at reason.Size head_size)

-- a style, behind 10 and the head's size
unfoldable pub style_of : ℕ → List ℕ → Answer Style
unfolding head_of
style_of slots head = cond (ltb slots room_size) short_room (cond (ltb head_size (length head)) long_head (head_of head))

abbrev pub checked_of : ℕ → List ℕ → Answer (Unit {0})
checked_of slots head = on_accepted (style_of slots head) (λ s. accepted tt)

-- "Work room, if lent, is zero after each call, save under 10, when it is untouched."
abbrev pub room_after : List ℕ → List ℕ
room_after room = cond (ltb (length room) room_size) room (replicate (length room) 0)
