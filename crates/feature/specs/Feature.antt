-- A feature's line: page 01, "What the painter reads" ("`feat` and one field for each property, in `prop` order."), "Sizes", and the
-- numbers 1 and 9 of "Refusal numbers", in that page's order: "then the strip: its size, the number of strips, 9".
use Rattle.std.specs.Prelude.{true, false, cond, List, [], ◌∷◌, ℕ, zero, suc, ◌+◌, T, eqb, ltb, length, drop, Option, Some, None, Result, Ok, Err}
use Rattle.lexer.specs.Refusal.{refusal_at, Judged, refused, fine, on_fine}
use Rattle.kind.specs.Set.{has}
use Rattle.kind.specs.declared.set.Kinds.{Kinds}
use Rattle.value.specs.Value.{kind_of}
use Rattle.value.specs.declared.value.Value.{Value}
use Rattle.plan.specs.Layout.{property_count, number_at}
use Rattle.checker.specs.Property.{set_at}
use Rattle.evaluator.specs.Values.{stored}
use Rattle.text.specs.Parts.{fields, field}
use Rattle.text.specs.Head.{is_feature}
use Rattle.feature.specs.Field.{field_of, conformed}
use Rattle.lexer.specs.declared.refusal.Refusal.{Refusal}
use Rattle.lexer.specs.declared.refusal.Reason.TheVariants as reason

-- ---- the fields in turn

-- the values of the fields up to the first that doesn't conform, and where that begins
pub data Values : Type 0 where
  complete : List Value → Values
  broken : List Value → ℕ → Values

abbrev pub with : Value → Values → Values
with v (complete vs) = complete (v ∷ vs)
with v (broken vs p) = broken (v ∷ vs) p

-- a field at a place, and those after it
abbrev pub onward : ℕ → Option Value → (Unit {0} → Values) → Values
onward at None rest = broken [] at
onward at (Some v) rest = with v (rest tt)

-- Each field has the set of its property. The first begins at a place, and each other behind the one before it and a tab.
abbrev pub values_from : ℕ → List Kinds → List (List ℕ) → Values
values_from at [] fs = complete []
values_from at (s ∷ ss) [] = complete []
values_from at (s ∷ ss) (f ∷ fs) = onward at (conformed s (field_of at f)) (λ _. values_from (at + length f + 1) ss fs)

-- ---- the line

-- "`feat` line 4,096 bytes"
abbrev pub feature_size : ℕ
feature_size = 4096

-- "999,999 strips"
abbrev pub most_features : ℕ
most_features = 999999

-- "then its field count": "the end for the count"
unfoldable pub fields_entered : List Kinds → List ℕ → Judged Values
fields_entered sets text =
    elim (eqb (length (fields text)) (length sets + 1)) [
      | false ↦ refused (refusal_at reason.Feature (length text))
      | true ↦ fine (values_from (length (field text 0) + 1) sets (drop 1 (fields text)))
    ]

-- a refusal before any field is looked at, or the fields; "a strip's word": "0 for the word"
unfoldable pub entered_of : List Kinds → ℕ → List ℕ → Judged Values
unfolding fields_entered
entered_of sets number text =
    cond (ltb feature_size (length text)) (refused (refusal_at reason.Size feature_size))
    (cond (ltb most_features number) (refused (refusal_at reason.Size most_features))
    (elim (is_feature text) [ false ↦ refused (refusal_at reason.Feature 0) | true ↦ fields_entered sets text ]))

-- ---- what the call answers, and what it stores

-- "else first wrong field"
abbrev pub all_conform : Values → Judged (Unit {0})
all_conform (complete vs) = fine tt
all_conform (broken vs p) = refused (refusal_at reason.Feature p)

abbrev pub values_of : Judged Values → List Value
values_of (refused r) = []
values_of (fine (complete vs)) = vs
values_of (fine (broken vs p)) = vs

abbrev pub feature_of : List Kinds → ℕ → List ℕ → Judged (Unit {0})
feature_of sets number text = on_fine (entered_of sets number text) all_conform

-- what the answer of `read` says
abbrev pub answer_of : Result (Unit {0}) Refusal → Judged (Unit {0})
answer_of (Err r) = refused r
answer_of (Ok tt) = fine tt

-- values stored one after another, from a number on
abbrev pub values_with : ℕ → List Value → List Value → List Value
values_with n [] values = values
values_with n (v ∷ vs) values = values_with (suc n) vs (stored values n v)

-- the values of names behind a line, by those before it
abbrev pub values_after : List Kinds → ℕ → List ℕ → List Value → List Value
values_after sets number text values = values_with 0 (values_of (entered_of sets number text)) values

-- the sets of so many properties from a number on, in a plan; and of all that it has
abbrev pub sets_from : List ℕ → ℕ → ℕ → List Kinds
sets_from plan i zero = []
sets_from plan i (suc n) = set_at plan i ∷ sets_from plan (suc i) n

abbrev pub sets_of : List ℕ → List Kinds
sets_of plan = sets_from plan 0 (number_at plan property_count)

-- ---- values that conform

-- A value for each property, of a kind that it may have: what a line gives that conforms, which it does by page 01, "Refusal numbers",
-- "if by this table neither 1 nor 9 refuses it". That it gives such values is a theorem.
abbrev pub AllOf : List Kinds → List Value → Type 0
AllOf [] [] = Unit {0}
AllOf [] (v ∷ vs) = ⊥
AllOf (s ∷ ss) [] = ⊥
AllOf (s ∷ ss) (v ∷ vs) = T (has s (kind_of v)) × AllOf ss vs
