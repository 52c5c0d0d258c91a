-- What the painter answers, and what it leaves in lent memory: page 01, "Refusal numbers" and "Checked examples".
use Rattle.std.specs.Prelude.{cond, List, map, ◌++◌, ℕ, ltb, length, drop, Result, Ok, Err}
use Rattle.lexer.specs.Refusal.{reason_number, Judged, refused, fine, refusal_at}
use Rattle.lexer.specs.declared.refusal.Reason.TheVariants as reason
use Rattle.kind.specs.declared.set.Kinds.{Kinds}
use Rattle.value.specs.declared.value.Value.{Value}
use Rattle.checker.specs.Property.{property_kinds}
use Rattle.style.specs.Answer.{Answer, refusal, accepted, on_accepted}
use Rattle.style.specs.Style.{Declared, Style}
use Rattle.style.specs.Head.{style_of}
use Rattle.style.specs.Head as style
use Rattle.feature.specs.Feature.{Values, complete, broken, entered_of}
use Rattle.output.specs.Line.{painted_line, refused_feature}
use Rattle.painter.specs.Meaning.{given_of}
use Rattle.painter.specs.declared.answer.Given.{Given}
use Rattle.painter.specs.declared.answer.Painted.{Painted}
use Rattle.style.specs.declared.check.LineRefusal.{LineRefusal}

-- ---- answers in page 01's terms

-- page 01's number, line and place, or what is accepted
abbrev pub answer_of : {A : Type 0} → Result A LineRefusal → Answer A
answer_of (Err r) = refusal r.line r.refusal
answer_of (Ok a) = accepted a

-- the same of what a style gives a feature
abbrev pub drawn_answer : Result Given LineRefusal → Answer Given
drawn_answer drawn = answer_of drawn

-- ---- a feature

-- What is made of the values of a line that conforms. "then the strip: its size, the number of strips, 9", in which order they are entered;
-- the line is "for a strip, the number its caller gives it".
abbrev pub on_values : {A : Type 0} → ℕ → Judged Values → (List Value → A) → Answer A
on_values number (refused r) make = refusal number r
on_values number (fine (broken vs p)) make = refusal number (refusal_at reason.Feature p)
on_values number (fine (complete vs)) make = accepted (make vs)

-- the kinds that each property may have, in their order
abbrev pub declared_kinds : Declared → Kinds
declared_kinds d = property_kinds d.property

abbrev pub schema_of : Style → List Kinds
schema_of s = map declared_kinds s.properties

-- what the style gives it
abbrev pub given_answer : Style → ℕ → List ℕ → Answer Given
given_answer s number text = on_values number (entered_of (schema_of s) number text) (given_of s text)

-- the line that is written for it
abbrev pub given_line : ℕ → Given → List ℕ
given_line number given = painted_line number given.show given.colouring

abbrev pub written_for : ℕ → Given → Painted
written_for number given = record { given = given; bytes = length (given_line number given) }

abbrev pub featured : Style → ℕ → List ℕ → Answer Painted
featured s number text = on_accepted (given_answer s number text) (λ given. accepted (written_for number given))

-- ---- the call

-- "an output buffer under 32 bytes"
abbrev pub least_bytes : ℕ
least_bytes = 32

abbrev pub short_buffer : {A : Type 0} → Answer A
short_buffer = refusal 0 (refusal_at reason.Room 0)

-- "Order: 10; size of the head; then the head's lines in turn, each 8 first and then its expressions left to right, each by 1 to 7 in that
-- order; then the strip": of the buffer and the room their lengths count, and the 10 of the room stands in `style_of`.
unfoldable pub painted_of : ℕ → ℕ → List ℕ → ℕ → List ℕ → Answer Painted
unfolding style_of entered_of
painted_of bytes slots head number text =
    cond (ltb bytes least_bytes) short_buffer (on_accepted (style_of slots head) (λ s. featured s number text))

-- ---- lent memory

-- "A refused call leaves each output buffer as it came; an accepted one writes its line at the front and touches no byte after it."
abbrev pub out_after : Answer Painted → ℕ → List ℕ → List ℕ
out_after (refusal line r) number out = out
out_after (accepted w) number out = given_line number w.given ++ drop w.bytes out

-- "Work room, if lent, is zero after each call, save under 10, when it is untouched."
abbrev pub room_after : ℕ → List ℕ → List ℕ
room_after bytes room = cond (ltb bytes least_bytes) room (style.room_after room)

-- ---- what is printed

-- the line of a feature: `1→true→#00FF0080`, or `3→refused→9→5`
abbrev pub feature_line : ℕ → Answer Given → List ℕ
feature_line number (refusal line r) = refused_feature number (reason_number r.reason) r.place
feature_line number (accepted given) = given_line number given

-- the same where a refusal is of any type, by the number and the place that are printed of it
abbrev pub drawn_line : {R : Type 0} → (R → ℕ) → (R → ℕ) → ℕ → Result Given R → List ℕ
drawn_line printed_number printed_place number (Err r) = refused_feature number (printed_number r) (printed_place r)
drawn_line printed_number printed_place number (Ok given) = given_line number given

-- what a call gives, its line aside
abbrev pub given_in : Answer Painted → Answer Given
given_in a = on_accepted a (λ w. accepted w.given)
