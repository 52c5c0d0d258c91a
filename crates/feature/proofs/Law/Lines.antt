-- The fields of a line in turn, and the line.
use Rattle.std.specs.Prelude.{Option, Some, None, Result, Ok, Err}
use mathlib.Core.Path.{◌≡◌, refl, sym, ◌∙◌, ap}
use mathlib.Core.Bool.{true, false}
use mathlib.Core.List.{List, [], ◌∷◌}
use Prim.Native.Nat.{ℕ, zero, suc, ◌+◌, ◌-◌, ◌≤◌, ◌<◌}
use native.Mathlib.Numerals.{add-one}
use native.Mathlib.Omega.{arith}
use borrow.Author.Tests.{eq-eqb, ne_eqb, lt-ltb, le-ltb}
use lib.ListN.{length}
use lib.Seq.{slice, length-slice}
use Rattle.lexer.specs.Refusal.{refusal_at, Judged, refused, fine, on_fine}
use Rattle.lexer.specs.declared.refusal.Refusal.{Refusal}
use Rattle.lexer.specs.declared.refusal.Reason.TheVariants as reason
use Rattle.kind.specs.declared.set.Kinds.{Kinds}
use Rattle.value.specs.declared.value.Value.{Value}
use Rattle.checker.specs.Property.{set_at}
use Rattle.evaluator.specs.Values.{stored}
use Rattle.plan.specs.Layout.{property_count, number_at}
use Rattle.text.specs.Parts.{fields, end_from}
use Rattle.text.specs.Head.{is_feature}
use Rattle.text.proofs.Law.Parts.{parts_from, parts_all, parts-on, parts-some, end-within, some-part}
use Rattle.feature.specs.Field.{field_of, conformed}
use Rattle.feature.specs.Feature.{Values, complete, broken, with, onward, values_from, feature_size, most_features, fields_entered, entered_of, all_conform, values_of, answer_of, values_with, sets_from, sets_of}
use Rattle.feature.specs.Inner.{FieldsBy}

-- ---- the fields that are left

-- what a call answers and the values that it leaves, from a number of a property on
abbrev outcome : Judged Values → ℕ → List Value → Judged (Unit {0}) × List Value
outcome e n values = (on_fine e all_conform, values_with n (values_of e) values)

-- one value is stored before the others
stored-first : (v : Value) (vs : Values) (n : ℕ) (values : List Value) → outcome (fine (with v vs)) n values ≡ outcome (fine vs) (suc n) (stored values n v)
stored-first v (complete vs) n values = refl
stored-first v (broken vs p) n values = refl

-- the fields from a place on, the first of which is a property's with a number
abbrev values_left : List ℕ → ℕ → ℕ → List (List ℕ) → Values
values_left plan n at fs = values_from at (sets_from plan n (length fs)) fs

-- what the fields' function promises, of a call that is at its end
ended : (plan : List ℕ) (properties : ℕ) (line : List ℕ) (first values : List Value) (r : Result (Unit {0}) Refusal) →
    outcome (fields_entered (sets_from plan 0 properties) line) 0 first ≡ (answer_of r, values) → FieldsBy plan properties line first values r
ended plan properties line first values r w = record { answer = sym (ap (λ o. o.0) w); all-stored = sym (ap (λ o. o.1) w) }

-- What is left gives the whole.
pub record Sofar (plan : List ℕ) (properties : ℕ) (line : List ℕ) (first values : List Value) (at n : ℕ) : Type 0 where
  pub count : n + length (parts_from 9 line at) ≡ properties
  pub whole : outcome (fields_entered (sets_from plan 0 properties) line) 0 first ≡ outcome (fine (values_left plan n at (parts_from 9 line at))) n values

sets-length : (plan : List ℕ) (i n : ℕ) → length (sets_from plan i n) ≡ n
sets-length plan i zero = refl
sets-length plan i (suc n) = ap suc (sets-length plan (suc i) n)

module _ (plan line : List ℕ) (properties : ℕ) where
  -- the count is looked at first
  count-differs : (m : ℕ) → m ≡ length (fields line) → (m - 1 ≡ properties → ⊥) → fields_entered (sets_from plan 0 properties) line ≡ refused (refusal_at reason.Feature (length line))
  unfolding fields_entered
  count-differs m e h = rw (fields_entered, sets-length plan 0 properties, ne_eqb (length (fields line)) (properties + 1) (λ i. h (omega (arith, e, i))))

  pub other-count : (m : ℕ) (values : List Value) → m ≡ length (fields line) → (m - 1 ≡ properties → ⊥) →
      FieldsBy plan properties line values values (Err (refusal_at reason.Feature (length line)))
  other-count m values e h = ended _ _ _ _ _ _ (ap (λ (e : Judged Values). outcome e 0 values) (count-differs m e h))

  -- then the fields begin behind the word
  module _ (m word : ℕ) (e : m ≡ length (fields line)) (h : m - 1 ≡ properties) (w : word ≡ end_from 9 line 0) where
    behind-word : fields line ≡ slice 0 word line ∷ parts_from 9 line (word + 1)
    behind-word = sym (parts_all 9 line) ∙ parts-on 9 line 0 (omega arith) ∙ rw w

    all_left : length (parts_from 9 line (word + 1)) ≡ properties
    all_left = omega (arith, e, h, some-part 9 line, ap length behind-word)

    from-word : fields_entered (sets_from plan 0 properties) line ≡ fine (values_left plan 0 (word + 1) (parts_from 9 line (word + 1)))
    unfolding fields_entered
    from-word =
        let c : length (fields line) ≡ properties + 1 = omega (arith, e, h, some-part 9 line) in
        let l : length (slice 0 word line) ≡ word = omega (arith, length-slice 0 word line (omega (arith, w, end-within 9 line 0 (omega arith)))) in
        rw (fields_entered, sets-length plan 0 properties, eq-eqb _ _ c) (rw (behind-word, l, all_left))

    pub fields-start : (values : List Value) → Sofar plan properties line values values (word + 1) 0
    fields-start values = record { count = omega (arith, all_left); whole = ap (λ (e : Judged Values). outcome e 0 values) from-word }

  -- ---- a field

  module _ (first values : List Value) (at n : ℕ) (s : Sofar plan properties line first values at n) where
    pub at_field : n < properties → at ≤ length line
    at_field h = parts-some 9 line at (omega (arith, s.count))

    module _ (end : ℕ) (r : Option Value) (h : n < properties) (e : end ≡ end_from 9 line at) (i : r ≡ conformed (set_at plan n) (field_of at (slice at end line))) where
      this-one : values_left plan n at (parts_from 9 line at) ≡ onward at r (λ _. values_left plan (suc n) (end + 1) (parts_from 9 line (end + 1)))
      this-one =
          let l : at + length (slice at end line) ≡ end =
          omega (arith, e, length-slice at end line (omega (arith, e, end-within 9 line at (at_field h)))) in
          rw (parts-on 9 line at (at_field h), ← e, l, i)

      pub field-wrong : r ≡ None → FieldsBy plan properties line first values (Err (refusal_at reason.Feature at))
      field-wrong k = ended _ _ _ _ _ _ (rw (this-one, k) at s.whole)

      pub field_stored : (v : Value) (values' : List Value) → r ≡ Some v → values' ≡ stored values n v → Sofar plan properties line first values' (end + 1) (n + 1)
      field_stored v values' k p =
          let l = ap length (parts-on 9 line at (at_field h)) in
          record {
            count = rw e (omega (arith, s.count, l));
            whole = rw (p, add-one n) (rw (this-one, k) at s.whole ∙ stored-first v (values_left plan (suc n) (end + 1) (parts_from 9 line (end + 1))) n values);
          }

    pub all-stored : properties ≤ n → FieldsBy plan properties line first values (Ok tt)
    all-stored h = go (parts_from 9 line at) (omega (arith, s.count)) s.whole
      where
        go : (fs : List (List ℕ)) → length fs ≡ 0 → outcome (fields_entered (sets_from plan 0 properties) line) 0 first ≡ outcome (fine (values_left plan n at fs)) n values →
            FieldsBy plan properties line first values (Ok tt)
        go [] z w = ended _ _ _ _ _ _ w
        go (f ∷ fs) z w = absurd (omega arith)

-- ---- the line

module _ (ss : List Kinds) (number : ℕ) (line : List ℕ) where
  pub too_long : feature_size < length line → entered_of ss number line ≡ refused (refusal_at reason.Size feature_size)
  unfolding entered_of
  too_long h = rw (lt-ltb feature_size (length line) h)

  module _ (h : length line ≤ feature_size) where
    pub too_many : most_features < number → entered_of ss number line ≡ refused (refusal_at reason.Size most_features)
    unfolding entered_of
    too_many k = rw (le-ltb feature_size (length line) h, lt-ltb most_features number k)

    module _ (k : number ≤ most_features) where
      pub other_word : is_feature line ≡ false → entered_of ss number line ≡ refused (refusal_at reason.Feature 0)
      unfolding entered_of
      other_word f = rw (le-ltb feature_size (length line) h, le-ltb most_features number k, f)

      pub its-fields : is_feature line ≡ true → entered_of ss number line ≡ fields_entered ss line
      unfolding entered_of
      its-fields f = rw (le-ltb feature_size (length line) h, le-ltb most_features number k, f)

-- what the call promises, of a line that is refused and of one whose fields are read
module _ (e : Judged Values) (values : List Value) where
  pub refuses : {r : (Result (Unit {0}) Refusal)} {x : Refusal} → r ≡ Err x → e ≡ refused x →
      (answer_of r ≡ on_fine e all_conform) × (values ≡ values_with 0 (values_of e) values)
  refuses a k = (rw (a, k), rw k)

  pub reads : (plan : List ℕ) (properties : ℕ) (line : List ℕ) (values' : List Value) (r : Result (Unit {0}) Refusal) → properties ≡ number_at plan property_count →
      e ≡ fields_entered (sets_of plan) line → FieldsBy plan properties line values values' r →
      (answer_of r ≡ on_fine e all_conform) × (values' ≡ values_with 0 (values_of e) values)
  reads plan properties line values' r n k f =
      let i : e ≡ fields_entered (sets_from plan 0 properties) line = rw n k in
      (rw i f.answer, rw i f.all-stored)
