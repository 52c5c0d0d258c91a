-- What `given` and `apply` promise: what a style gives a feature, as plan and room hold the style and an array the feature's values (page
-- 01, "Kinds and meaning" and "Refusal numbers"). Where they hold what a head and a line have given it is what `Meaning` and `Paint` say,
-- which is a theorem; it is defined for any others too.
use Rattle.std.specs.Prelude.{cond, List, [], ◌∷◌, ℕ, zero, suc, ◌+◌, min, eqb, ltb, leb, length, take}
use Rattle.std.proofs.Math.Seq.{slice}
use Rattle.lexer.specs.Refusal.{Judged, refused, fine}
use Rattle.value.specs.declared.value.Value.{Value}
use Rattle.value.specs.declared.value.Value.TheVariants.{Undefined}
use Rattle.plan.specs.Layout.{most_defines, most_conditions, first_define, show_row, colour_row, test_row, result_row, expressions}
use Rattle.plan.specs.Layout.{define_count, show_count, colour_count, condition_count, from_place, to_place, root_place, number_at}
use Rattle.evaluator.specs.Values.{stored}
use Rattle.evaluator.specs.Eval.{value_in}
use Rattle.evaluator.specs.Arrays.{eval_at}
use Rattle.style.specs.Answer.{Answer, refusal, accepted}
use Rattle.style.specs.Style.{Condition}
use Rattle.style.specs.Compile.{plan_after, trees_after}
use Rattle.feature.specs.Feature.{Values, complete, broken, sets_of, entered_of, values_of, values_with}
use Rattle.output.specs.Line.{front}
use Rattle.painter.specs.Given.{given_by}
use Rattle.painter.specs.Paint.{on_values, given_line, least_bytes, short_buffer}
use Rattle.painter.specs.declared.answer.Given.{Given}
use Rattle.painter.specs.declared.answer.Painted.{Painted}

-- the head, the feature's line, and the room and the plan of the head
pub record Source : Type 0 where
  pub head : List ℕ
  pub feature : List ℕ
  pub room : List ℕ
  pub plan : List ℕ

abbrev pub source : List ℕ → List ℕ → List ℕ → List ℕ → Source
source head feature room plan = record { head = head; feature = feature; room = room; plan = plan }

-- as `compile` leaves room and plan for a head, whatever stood in them before
abbrev pub compiled : List ℕ → List ℕ → List ℕ → List ℕ → Source
compiled head room plan feature = source head feature (trees_after head room) (plan_after (length room) head plan)

-- An expression that begins and ends at places of the head, with the root of its tree, from the values of names; what lies outside head or
-- room is Undefined.
abbrev pub placed_value : Source → List Value → ℕ → ℕ → ℕ → Value
placed_value x values from to root =
    cond (ltb to from) Undefined
    (cond (ltb (length x.head) to) Undefined
    (cond (ltb (length x.room) to) Undefined
    (value_in (eval_at (take to x.head) x.feature (slice from to x.room) values from root))))

-- the expression of a row
unfoldable pub row_value : Source → List Value → ℕ → Value
row_value x values row =
    let plan = x.plan in
    cond (leb expressions row) Undefined
    (placed_value x values (number_at plan (from_place row)) (number_at plan (to_place row)) (number_at plan (root_place row)))

-- ---- the values of names

-- after the values of n defines from i on are stored behind those of the properties
abbrev pub defined_from : Source → ℕ → ℕ → List Value → List Value
defined_from x zero i values = values
defined_from x (suc n) i values =
    defined_from x n (suc i) (stored values (first_define + i) (row_value x values i))

-- after those of all that the plan has
abbrev pub all_defined : Source → List Value → List Value
all_defined x values = defined_from x (min (number_at x.plan define_count) most_defines) 0 values

-- ---- the rows that the counts of lines ask for

-- the row of a line of which there is at most one
abbrev pub row_if : ℕ → ℕ → List ℕ
row_if n row = cond (eqb n 0) [] (row ∷ [])

abbrev pub show_rows : List ℕ → List ℕ
show_rows plan = row_if (number_at plan show_count) show_row

abbrev pub colour_rows : List ℕ → List ℕ
colour_rows plan = row_if (number_at plan colour_count) colour_row

-- those of n conditions from k on
abbrev pub conditions_from : ℕ → ℕ → List (Condition ℕ)
conditions_from zero k = []
conditions_from (suc n) k = record { test = test_row k; colour = result_row k } ∷ conditions_from n (suc k)

abbrev pub condition_rows : List ℕ → List (Condition ℕ)
condition_rows plan = conditions_from (min (number_at plan condition_count) most_conditions) 0

-- ---- what is given

-- from the values of all names
abbrev pub given_at : Source → List Value → Given
given_at x values = given_by (row_value x values) (show_rows x.plan) (colour_rows x.plan) (condition_rows x.plan)

-- what a feature's line is entered as, by the sets of the plan
abbrev pub entered_by : Source → ℕ → Judged Values
entered_by x number = entered_of (sets_of x.plan) number x.feature

-- what `given` answers, from values as they are lent
unfoldable pub given_under : Source → ℕ → List Value → Answer Given
unfolding row_value entered_of
given_under x number values = on_values number (entered_by x number) (λ vs. given_at x (all_defined x (values_with 0 vs values)))

-- and how it leaves them: the values up to the first field that doesn't conform, and behind them those of the defines
abbrev pub defined_by : Source → Judged Values → List Value → List Value
defined_by x (refused r) values = values
defined_by x (fine (broken vs p)) values = values
defined_by x (fine (complete vs)) values = all_defined x values

unfoldable pub given_values : Source → ℕ → List Value → List Value
unfolding row_value entered_of
given_values x number values = defined_by x (entered_by x number) (values_with 0 (values_of (entered_by x number)) values)

-- ---- an answer, and the buffer behind it

abbrev pub line_written : Given → List ℕ × ℕ → Answer Painted × List ℕ
line_written given w = (accepted (record { given = given; bytes = w.1 }), w.0)

abbrev pub written_by : ℕ → List ℕ → Answer Given → Answer Painted × List ℕ
written_by number out (refusal line r) = (refusal line r, out)
written_by number out (accepted given) = line_written given (front out (given_line number given))

-- "an output buffer under 32 bytes" comes first here too
unfoldable pub applied_of : Source → ℕ → List ℕ → List Value → Answer Painted × List ℕ
unfolding given_under
applied_of x number out values =
    cond (ltb (length out) least_bytes) (short_buffer, out) (written_by number out (given_under x number values))

unfoldable pub applied_values : Source → ℕ → List ℕ → List Value → List Value
unfolding given_values
applied_values x number out values = cond (ltb (length out) least_bytes) values (given_values x number values)
