-- What is given by a plan, a room and an array of values is what the style gives, whatever the values were before.
use mathlib.Core.Path.{◌≡◌, refl, ◌∙◌, ap}
use mathlib.Core.List.{List, [], ◌∷◌, ◌++◌, map}
use Prim.Native.Nat.{ℕ, zero, suc, ◌+◌, ◌<◌, ◌≤◌, min}
use native.Mathlib.Omega.{arith}
use borrow.Author.Tests.{le-ltb, le-leb}
use lib.ListN.{length, drop}
use Rattle.lexer.specs.Refusal.{Judged, refused, fine, on_fine}
use Rattle.value.specs.declared.value.Value.{Value}
use Rattle.plan.specs.Layout.{most_properties, most_defines, most_conditions, show_row, colour_row, test_row, result_row, expressions, first_define, show_count, colour_count, condition_count, define_count, undeclared, number_at}
use Rattle.checker.specs.Property.{set_at}
use Rattle.checker.specs.declared.name.Scope.TheVariants as scope
use Rattle.checker.specs.declared.check.Wanted.{Wanted}
use Rattle.checker.specs.declared.check.Wanted.TheVariants as wanted
use Rattle.evaluator.specs.Values.{value_at, stored}
use Rattle.evaluator.proofs.Stored.{stored-length}
use Rattle.style.specs.Answer.{accepted, on_accepted}
use Rattle.style.specs.Style.{Declared, Expression, Define, Condition, Style, number_in}
use Rattle.style.specs.Holds.{Each, StyleHeld, Holds}
use Rattle.style.specs.Accepted.{Stands, AllStand}
use Rattle.style.proofs.Law.Ladder.{passed}
use Rattle.feature.specs.Feature.{Values, complete, broken, sets_from, sets_of, entered_of, all_conform, AllOf, values_with}
use Rattle.feature.proofs.Conforming.{read-within, entered-conform}
use Rattle.feature.proofs.Filled.{filled, values-kept}
use Rattle.feature.proofs.Own.{AllOwn, read-own}
use Rattle.output.specs.Line.{front}
use Rattle.output.proofs.Sizes.{painted-fits}
use Rattle.painter.specs.declared.answer.Given.{Given}
use Rattle.painter.specs.Given.{given_by}
use Rattle.painter.specs.Meaning.{property_value, value_of, given_of}
use Rattle.painter.specs.Paint.{on_values, declared_kinds, schema_of, given_answer, given_line, written_for, featured, least_bytes, out_after}
use Rattle.painter.specs.Applied.{Source, source, row_value, defined_from, all_defined, row_if, show_rows, colour_rows, conditions_from, given_at, given_under, line_written, written_by, applied_of}
use Rattle.painter.proofs.Law.Values.{Filled, defined_value, style-names}
use Rattle.painter.proofs.Law.Rows.{own, Defined, defined, row-truth, row-colour}
use Rattle.painter.proofs.Law.Given.{Both, SameTruth, SameColour, SameCondition, same-given}

-- ---- the sets of the properties

sets-are : (plan : List ℕ) (i : ℕ) (ds : List Declared) → Each (λ i (d : Declared). set_at plan i ≡ declared_kinds d) i ds → sets_from plan i (length ds) ≡ map declared_kinds ds
sets-are plan i [] hs = refl
sets-are plan i (d ∷ ds) hs = λ j. hs.0 j ∷ sets-are plan (suc i) ds hs.1 j

all-size : (ds : List Declared) (vs : List Value) → AllOf (map declared_kinds ds) vs → length ds ≡ length vs
all-size [] [] a = refl
all-size [] (v ∷ vs) a = absurd a
all-size (d ∷ ds) [] a = absurd a
all-size (d ∷ ds) (v ∷ vs) a = ap suc (all-size ds vs a.1)

-- defines that are stored leave as many values
pub defined-length : (x : Source) (n i : ℕ) (a : List Value) → length (defined_from x n i a) ≡ length a
defined-length x zero i a = refl
defined-length x (suc n) i a = defined-length x n (suc i) (stored a (first_define + i) (row_value x a i)) ∙ stored-length a (first_define + i) (row_value x a i)

-- ---- a style that a plan and a room hold

module _ (head feature room plan : List ℕ) (fits : length head ≤ length room) (s : Style) (holds : Holds head room plan s) (stand : AllStand s) where
  abbrev from : Source
  from = source head feature room plan

  module _ (vs : List Value) (conform : AllOf (schema_of s) vs) (owned : AllOwn vs) where
    size : length s.properties ≡ length vs
    size = all-size s.properties vs conform

    -- ---- expressions, where there is a value for each name

    abbrev own_value : ℕ → Define → Value
    own_value = own head feature room plan fits s holds stand vs conform owned size

    module _ (a : List Value)
        (names : (x : List ℕ) → value_at a (number_in scope.Style s x) ≡ defined_value own_value x (property_value s.properties vs x) 0 s.defines) where
      abbrev HeldAt : ℕ → Expression → Type 0
      HeldAt row e = StyleHeld head room plan s row e

      abbrev values : ℕ → Value
      values = row_value from a

      abbrev SameTruths : ℕ → Expression → Type 0
      SameTruths = SameTruth values (value_of s feature vs)

      abbrev SameColours : ℕ → Expression → Type 0
      SameColours = SameColour values (value_of s feature vs)

      same_truth : (row : ℕ) (e : Expression) → row < expressions → HeldAt row e → Stands scope.Style wanted.Boolean s e → SameTruths row e
      same_truth row e small held st = row-truth head feature room plan fits s holds stand vs conform owned size a names row e small held st.judged

      same-colour : (row : ℕ) (e : Expression) → row < expressions → HeldAt row e → Stands scope.Style wanted.Vec4 s e → SameColours row e
      same-colour row e small held st = row-colour head feature room plan fits s holds stand vs conform owned size a names row e small held st.judged

      -- the row of a line of which there is at most one
      one : (R : ℕ → Expression → Type 0) (want : Wanted) (row : ℕ) → ((e : Expression) → HeldAt (row + 0) e → Stands scope.Style want s e → R row e) →
          (n : ℕ) (es : List Expression) → n ≡ length es → length es ≤ 1 → Each (λ i (e : Expression). HeldAt (row + i) e) 0 es →
          Each (λ i (e : Expression). Stands scope.Style want s e) 0 es → Both R (row_if n row) es
      one R want row same n [] c few held st = rw c tt
      one R want row same n (e ∷ []) c few held st = rw c (same e held.0 st.0, tt)
      one R want row same n (e ∷ e' ∷ es) c few held st = absurd (omega arith)

      abbrev BothHeld : ℕ → Condition Expression → Type 0
      BothHeld k c = HeldAt (test_row k) c.test × HeldAt (result_row k) c.colour

      abbrev BothStand : Condition Expression → Type 0
      BothStand c = Stands scope.Style wanted.Boolean s c.test × Stands scope.Style wanted.Vec4 s c.colour

      conditioned : (k : ℕ) (cs : List (Condition Expression)) → k + length cs ≤ most_conditions → Each BothHeld k cs → Each (λ i c. BothStand c) k cs →
          Both (SameCondition values (value_of s feature vs)) (conditions_from (length cs) k) cs
      conditioned k [] small held st = tt
      conditioned k (c ∷ cs) small held st = (
        (same_truth (test_row k) c.test (omega arith) held.0.0 st.0.0, same-colour (result_row k) c.colour (omega arith) held.0.1 st.0.1),
        conditioned (suc k) cs (omega arith) held.1 st.1,
      )

      given : given_at from a ≡ given_of s feature vs
      given =
          let held = holds.expressed in
          let few = holds.few in
          let n : min (number_at plan condition_count) most_conditions ≡ length s.conditions = omega (arith, holds.counted.conditions, few.conditions) in
          let shows =
          one SameTruths wanted.Boolean show_row (λ e. same_truth show_row e (omega arith)) (number_at plan show_count) s.shows holds.counted.shows
          few.shows held.shows stand.shows in
          let colours =
          one SameColours wanted.Vec4 colour_row (λ e. same-colour colour_row e (omega arith)) (number_at plan colour_count) s.colours holds.counted.colours
          few.colours held.colours stand.colours in
          let conditions = conditioned 0 s.conditions (omega (arith, few.conditions)) held.conditions stand.conditions in
          ap (λ (k : ℕ). given_by values (show_rows plan) (colour_rows plan) (conditions_from k 0)) n
          ∙ same-given values (value_of s feature vs) (show_rows plan) (colour_rows plan) (conditions_from (length s.conditions) 0)
          s.shows s.colours s.conditions shows colours conditions

    -- ---- the values behind a line that is read

    module _ (a : List Value) (a-size : length a ≡ undeclared) where
      abbrev read : List Value
      read = values_with 0 vs a

      few-values : length vs ≤ most_properties
      few-values = omega (arith, size, holds.few.properties)

      values-filled : Filled read vs
      values-filled i h = filled vs a a-size (omega (arith, few-values)) i h

      -- and behind the defines
      abbrev after : List Value
      after = defined_from from (length s.defines) 0 read

      abbrev stored-defines : Defined head feature room plan fits s holds stand vs conform owned size read after 0 s.defines
      stored-defines =
          defined head feature room plan fits s holds stand vs conform owned size 0 s.defines read
          (values-kept 0 vs a ∙ a-size) (omega (arith, holds.few.defines)) values-filled
          holds.expressed.defines stand.defines

      still-filled : Filled after vs
      still-filled i h = stored-defines.below i (omega (arith, few-values)) ∙ values-filled i h

      given-after : given_at from (all_defined from read) ≡ given_of s feature vs
      given-after =
          let n : min (number_at plan define_count) most_defines ≡ length s.defines = omega (arith, holds.counted.defines, holds.few.defines) in
          (λ i. given_at from (defined_from from (n i) 0 read))
          ∙ given after (λ x. style-names s after (defined-length from (length s.defines) 0 read ∙ values-kept 0 vs a ∙ a-size) vs size still-filled x own_value stored-defines.each)

  -- ---- any line

  module _ (number : ℕ) (a : List Value) (a-size : length a ≡ undeclared) where
    pub given_is : given_under from number a ≡ given_answer s number feature
    unfolding given_under
    given_is = (λ i. on_values number (entered_of (sets i) number feature) make) ∙ go (entered_of (schema_of s) number feature) refl
      where
        make : List Value → Given
        make vs = given_at from (all_defined from (values_with 0 vs a))

        sets : sets_of plan ≡ schema_of s
        sets = ap (sets_from plan 0) holds.counted.properties ∙ sets-are plan 0 s.properties holds.sets.properties

        go : (x : Judged Values) → entered_of (schema_of s) number feature ≡ x → on_values number x make ≡ on_values number x (given_of s feature)
        go (refused r) e = refl
        go (fine (broken vs p)) e = refl
        go (fine (complete vs)) e =
            ap accepted (given-after vs (entered-conform (schema_of s) number feature vs e) (read-own (schema_of s) number feature vs e) a a-size)

    fitting : (out line : List ℕ) → length line ≤ length out → front out line ≡ (line ++ drop (length line) out, length line)
    unfolding front
    fitting out line h = rw (le-leb (length line) (length out) h)

    -- the line of what is accepted fits
    written_is : (out : List ℕ) → least_bytes ≤ length out → (x : Judged Values) → entered_of (schema_of s) number feature ≡ x →
        (let answer = on_values number x (given_of s feature) in
        let written = on_accepted answer (λ given. accepted (written_for number given)) in
        written_by number out answer ≡ (written, out_after written number out))
    written_is out k (refused r) e = refl
    written_is out k (fine (broken vs p)) e = refl
    written_is out k (fine (complete vs)) e =
        let g = given_of s feature vs in
        let few = (read-within (schema_of s) number feature (ap (λ x. on_fine x all_conform) e)).1 in
        ap (line_written g) (fitting out (given_line number g) (omega (arith, painted-fits number g.show g.colouring few, k)))

    pub applied-is : (out : List ℕ) → least_bytes ≤ length out → applied_of from number out a ≡ (featured s number feature, out_after (featured s number feature) number out)
    unfolding applied_of
    applied-is out k = passed _ (le-ltb (length out) least_bytes k) (ap (written_by number out) given_is ∙ written_is out k (entered_of (schema_of s) number feature) refl)
