-- What compiling leaves of a head for whoever paints: the plan, which is numbers, and beside each expression, in the room, its tree. Page
-- 01, "What the painter reads" and "Sizes"; the layout is that of the crate `plan`.
use Rattle.std.specs.Prelude.{List, [], ◌∷◌, ◌++◌, ℕ, ◌+◌, ◌-◌, length, set, replicate}
use Rattle.std.proofs.Math.Seq.{slice}
use Rattle.lexer.specs.Refusal.{Judged, refused, fine}
use Rattle.kind.specs.Set.{single_of}
use Rattle.kind.specs.declared.kind.Kind.TheVariants.{Undefined}
use Rattle.kind.specs.declared.set.Kinds.{Kinds}
use Rattle.plan.specs.Layout.{first_define, show_row, colour_row, test_row, result_row, property_count, define_count, show_count, colour_count}
use Rattle.plan.specs.Layout.{condition_count, counts, set_place, from_place, to_place, root_place, plan_size}
use Rattle.tree.specs.Tree.{place}
use Rattle.syntax.specs.Judge.{slots_after}
use Rattle.checker.specs.Name.{resolved_slots}
use Rattle.checker.specs.Property.{property_kinds, packed_of}
use Rattle.checker.specs.declared.name.Scope.TheVariants as scope
use Rattle.text.specs.Parts.{lines, field_start}
use Rattle.text.specs.Slice.{put_back}
use Rattle.style.specs.Answer.{Answer, refusal, accepted}
use Rattle.style.specs.Style.{Expression, Style, Entry, property, define, show, colour, condition, empty, with, number_in}
use Rattle.style.specs.Item.{line_said}
use Rattle.style.specs.Head.{style_of, room_after}

-- ---- the plan with what a line adds

-- a name's number has a set of kinds
abbrev pub with_set : ℕ → Kinds → List ℕ → List ℕ
with_set n kinds plan = set plan (set_place n) (packed_of kinds)

-- a row has an expression that begins at a place of the head
abbrev pub with_row : ℕ → ℕ → Expression → List ℕ → List ℕ
with_row row from e plan =
    set (set (set plan (from_place row) from) (to_place row) (from + length e.text)) (root_place row) (place e.tree)

-- behind a style; the line begins at a place of the head, and its fields are `define` name expression, `show` expression, `cond`
-- condition expression
abbrev pub planned : ℕ → List ℕ → Style → Entry → List ℕ → List ℕ
planned at line s (property d) plan =
    let n = length s.properties in
    with_set n (property_kinds d.property) (set plan property_count (n + 1))
planned at line s (define d) plan =
    let n = length s.defines in
    with_row n (at + field_start line 2) d.expression (with_set (first_define + n) d.expression.kinds (set plan define_count (n + 1)))
planned at line s (show e) plan = with_row show_row (at + field_start line 1) e (set plan show_count (length s.shows + 1))
planned at line s (colour e) plan = with_row colour_row (at + field_start line 1) e (set plan colour_count (length s.colours + 1))
planned at line s (condition c) plan =
    let n = length s.conditions in
    let tested = with_row (test_row n) (at + field_start line 1) c.test (set plan condition_count (n + 1)) in
    with_row (result_row n) (at + field_start line 2) c.colour tested

-- Before any line: nothing is counted, and each name has the set of an undeclared one. The rows behind the sets have the same number,
-- which means nothing there.
unfoldable pub fresh_plan : List ℕ
unfolding packed_of
fresh_plan = replicate counts 0 ++ replicate (plan_size - counts) (packed_of (single_of Undefined))

-- ---- the room with what a line adds

-- the tree of an expression beside it, every variable with its name's number
unfoldable pub laid : (List ℕ → ℕ) → ℕ → Expression → List ℕ → List ℕ
unfolding put_back
laid number from e room =
    let to = from + length e.text in
    put_back room from to (resolved_slots number e.text (slots_after (slice from to room) e.text))

abbrev pub roomed : ℕ → List ℕ → Style → Entry → List ℕ → List ℕ
roomed at line s (property d) room = room
roomed at line s (define d) room = laid (number_in scope.Define s) (at + field_start line 2) d.expression room
roomed at line s (show e) room = laid (number_in scope.Style s) (at + field_start line 1) e room
roomed at line s (colour e) room = laid (number_in scope.Style s) (at + field_start line 1) e room
roomed at line s (condition c) room =
    laid (number_in scope.Style s) (at + field_start line 2) c.colour
    (laid (number_in scope.Style s) (at + field_start line 1) c.test room)

-- ---- lines in turn

abbrev pub onward : {X : Type 0} → Judged Entry → X → (Entry → X) → X
onward (refused r) x k = x
onward (fine e) x k = k e

-- what lines make of something, each by what it adds; the first begins at a place of the head
abbrev pub lines_make : {X : Type 0} → (ℕ → List ℕ → Style → Entry → X → X) → ℕ → Style → List (List ℕ) → X → X
lines_make step at s [] x = x
lines_make step at s (l ∷ ls) x = onward (line_said s l) x (λ e. lines_make step (at + length l + 1) (with s e) ls (step at l s e x))

unfoldable pub plan_of : List ℕ → List ℕ
unfolding line_said fresh_plan
plan_of head = lines_make planned 0 empty (lines head) fresh_plan

unfoldable pub room_of : List ℕ → List ℕ → List ℕ
unfolding line_said laid
room_of head room = lines_make roomed 0 empty (lines head) room

-- ---- what the call leaves

-- "A refused call leaves each output buffer as it came": the plan is one
abbrev pub plan_by : {A : Type 0} → Answer A → List ℕ → List ℕ → List ℕ
plan_by (refusal n r) head plan = plan
plan_by (accepted a) head plan = plan_of head

abbrev pub plan_after : ℕ → List ℕ → List ℕ → List ℕ
plan_after slots head plan = plan_by (style_of slots head) head plan

-- the room is zero after a refusal, save under 10
abbrev pub room_by : {A : Type 0} → Answer A → List ℕ → List ℕ → List ℕ
room_by (refusal n r) head room = room_after room
room_by (accepted a) head room = room_of head room

abbrev pub trees_after : List ℕ → List ℕ → List ℕ
trees_after head room = room_by (style_of (length room) head) head room
