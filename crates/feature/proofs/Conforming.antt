-- A line that is read is within the sizes, and gives each property a value of a kind that it may have.
use Rattle.std.specs.Prelude.{Option, Some, None}
use mathlib.Core.Path.{◌≡◌, refl, sym, ◌∙◌, ap, subst}
use mathlib.Core.Bool.{Bool, true, false, cond}
use mathlib.Core.List.{List, [], ◌∷◌}
use Prim.Native.Nat.{ℕ, ◌+◌, ◌≤◌}
use native.Mathlib.Omega.{arith}
use borrow.Author.Tests.{ltb-false, eqb-true}
use lib.Dec.{T, eqb, ltb}
use lib.ListN.{length, drop, length-drop}
use Rattle.lexer.specs.Refusal.{refusal_at, Judged, refused, fine, on_fine}
use Rattle.lexer.specs.declared.refusal.Reason.TheVariants as reason
use Rattle.kind.specs.Set.{has}
use Rattle.kind.specs.declared.set.Kinds.{Kinds}
use Rattle.value.specs.Value.{kind_of}
use Rattle.value.specs.declared.value.Value.{Value}
use Rattle.text.specs.Parts.{fields, field}
use Rattle.text.specs.Head.{is_feature}
use Rattle.feature.specs.Field.{field_of, conformed}
use Rattle.feature.specs.Feature.{Values, complete, broken, with, onward, values_from, feature_size, most_features, fields_entered, entered_of, all_conform, values_of, feature_of, AllOf}

-- ---- the fields

-- if every field conforms, so do the values
abbrev Conform : List Kinds → Values → Type 0
Conform ss (complete vs) = AllOf ss vs
Conform ss (broken vs p) = Unit {0}

with_first : (s : Kinds) (ss : List Kinds) (v : Value) (vs : Values) → T (has s (kind_of v)) → Conform ss vs → Conform (s ∷ ss) (with v vs)
with_first s ss v (complete vs) t c = (t, c)
with_first s ss v (broken vs p) t c = tt

field-first : (at : ℕ) (s : Kinds) (ss : List Kinds) (f : Option Value) (rest : Unit {0} → Values) → Conform ss (rest tt) → Conform (s ∷ ss) (onward at (conformed s f) rest)
field-first at s ss None rest c = tt
field-first at s ss (Some v) rest c = go (has s (kind_of v)) (λ t. t)
  where
    go : (b : Bool) → (T b → T (has s (kind_of v))) → Conform (s ∷ ss) (onward at (cond b (Some v) None) rest)
    go true h = with_first s ss v (rest tt) (h tt) c
    go false h = tt

values-conform : (at : ℕ) (ss : List Kinds) (fs : List (List ℕ)) → length ss ≤ length fs → Conform ss (values_from at ss fs)
values-conform at [] fs h = tt
values-conform at (s ∷ ss) [] h = absurd (omega arith)
values-conform at (s ∷ ss) (f ∷ fs) h = field-first at s ss (field_of at f) _ (values-conform (at + length f + 1) ss fs (omega arith))

-- ---- the line

abbrev IsRead : Judged (Unit {0}) → Type 0
IsRead (refused r) = ⊥
IsRead (fine u) = Unit {0}

module _ (sets : List Kinds) (number : ℕ) (text : List ℕ) where
  -- what holds of each way that a line can go holds of what it comes to
  pub by-line : (P : Judged Values → Type 0) → P (refused (refusal_at reason.Size feature_size)) → P (refused (refusal_at reason.Size most_features)) → P (refused (refusal_at reason.Feature 0)) → P (refused (refusal_at reason.Feature (length text))) →
      (length text ≤ feature_size → number ≤ most_features → length (fields text) ≡ length sets + 1 → P (fine (values_from (length (field text 0) + 1) sets (drop 1 (fields text))))) →
      P (entered_of sets number text)
  unfolding entered_of fields_entered
  by-line P size many word count read =
      go (ltb feature_size (length text)) refl (ltb most_features number) refl (is_feature text) (eqb (length (fields text)) (length sets + 1)) refl
    where
      go : (b : Bool) → ltb feature_size (length text) ≡ b → (c : Bool) → ltb most_features number ≡ c → (d e : Bool) → eqb (length (fields text)) (length sets + 1) ≡ e →
          P (cond b (refused (refusal_at reason.Size feature_size))
          (cond c (refused (refusal_at reason.Size most_features))
          (elim d [
            | false ↦ refused (refusal_at reason.Feature 0)
            | true ↦ elim e [ false ↦ refused (refusal_at reason.Feature (length text)) | true ↦ fine (values_from (length (field text 0) + 1) sets (drop 1 (fields text))) ]
          ])))
      go true p c q d e r = size
      go false p true q d e r = many
      go false p false q false e r = word
      go false p false q true false r = count
      go false p false q true true r = read (ltb-false _ _ p) (ltb-false _ _ q) (eqb-true _ _ r)

  -- what is known of the line by what it comes to
  abbrev Known : Judged Values → Type 0
  Known (refused e) = Unit {0}
  Known (fine vs) = (length text ≤ feature_size) × (number ≤ most_features) × Conform sets vs

  line_known : Known (entered_of sets number text)
  line_known =
      by-line Known tt tt tt tt
      (λ h k n. (h, k, values-conform (length (field text 0) + 1) sets (drop 1 (fields text)) (omega (arith, length-drop 1 (fields text), n))))

  -- ---- the theorems

  module _ (e : feature_of sets number text ≡ fine tt) where
    pub read-within : (length text ≤ feature_size) × (number ≤ most_features)
    read-within = go (entered_of sets number text) (subst IsRead (sym e) tt) line_known
      where
        go : (x : Judged Values) → IsRead (on_fine x all_conform) → Known x → (length text ≤ feature_size) × (number ≤ most_features)
        go (refused e) r k = absurd r
        go (fine vs) r k = (k.0, k.1)

    pub read-gives : (vs : List Value) × (entered_of sets number text ≡ fine (complete vs)) × AllOf sets vs
    read-gives = go (entered_of sets number text) (subst IsRead (sym e) tt) line_known
      where
        go : (x : Judged Values) → IsRead (on_fine x all_conform) → Known x → (vs : List Value) × (x ≡ fine (complete vs)) × AllOf sets vs
        go (refused e) r k = absurd r
        go (fine (broken vs p)) r k = absurd r
        go (fine (complete vs)) r k = (vs, refl, k.2)

-- so the values of a line that is read conform
pub entered-conform : (sets : List Kinds) (number : ℕ) (text : List ℕ) (vs : List Value) → entered_of sets number text ≡ fine (complete vs) → AllOf sets vs
entered-conform sets number text vs e =
    let r = read-gives sets number text (ap (λ (x : Judged Values). on_fine x all_conform) e) in
    subst (AllOf sets) (ap values_of (sym r.1 ∙ e)) r.2
