-- The strings of a feature lie in its own line.
use Rattle.std.specs.Prelude.{Option, Some, None}
use mathlib.Core.Path.{◌≡◌, refl, subst}
use mathlib.Core.Bool.{Bool, true, false, cond}
use mathlib.Core.List.{List, [], ◌∷◌}
use Prim.Native.Nat.{ℕ, ◌+◌, ◌-◌}
use lib.Dec.{leb}
use lib.ListN.{length, drop}
use Rattle.lexer.specs.Bytes.{same, ascii, begins}
use Rattle.lexer.specs.Refusal.{Judged, refused, fine}
use Rattle.lexer.proofs.Law.Runs.{by-test}
use Rattle.kind.specs.Set.{has}
use Rattle.kind.specs.declared.set.Kinds.{Kinds}
use Rattle.value.specs.Value.{kind_of, span}
use Rattle.value.specs.declared.value.Value.{Value}
use Rattle.text.specs.Parts.{fields, field, parted}
use Rattle.feature.specs.Field.{Numbers, wrong, all, made, numbers_in, numbers_of, longest_string, string_of, filled_of, field_of, conformed}
use Rattle.feature.specs.Feature.{Values, complete, broken, with, onward, values_from, entered_of}
use Rattle.feature.proofs.Conforming.{by-line}

abbrev pub Own : Value → Type 0
Own v = (span v).literal ≡ false

abbrev pub AllOwn : List Value → Type 0
AllOwn [] = Unit {0}
AllOwn (v ∷ vs) = Own v × AllOwn vs

-- ---- a field

abbrev OwnField : Option Value → Type 0
OwnField None = Unit {0}
OwnField (Some v) = Own v

made-own : (ns : Numbers) → OwnField (made ns)
made-own wrong = tt
made-own (all []) = tt
made-own (all (x ∷ [])) = refl
made-own (all (x ∷ y ∷ [])) = refl
made-own (all (x ∷ y ∷ z ∷ [])) = refl
made-own (all (x ∷ y ∷ z ∷ w ∷ [])) = refl
made-own (all (x ∷ y ∷ z ∷ w ∷ v ∷ us)) = tt

filled-own : (at : ℕ) (text : List ℕ) → OwnField (filled_of at text)
unfolding filled_of numbers_of
filled-own at text =
    by-test OwnField (same text (ascii "null")) (λ _. refl)
    (λ _. by-test OwnField (same text (ascii "true")) (λ _. refl)
    (λ _. by-test OwnField (same text (ascii "false")) (λ _. refl) (λ _. go (begins (61 ∷ []) text))))
  where
    go : (b : Bool) → OwnField (elim b [ true ↦ string_of at (at + length text) | false ↦ made (numbers_in (parted 32 text)) ])
    go true = by-test OwnField (leb (at + length text - (at + 1)) longest_string) (λ _. refl) (λ _. tt)
    go false = made-own (numbers_in (parted 32 text))

field-own : (at : ℕ) (text : List ℕ) → OwnField (field_of at text)
field-own at [] = refl
field-own at (b ∷ bs) = filled-own at (b ∷ bs)

-- ---- the fields of a line

abbrev OwnValues : Values → Type 0
OwnValues (complete vs) = AllOwn vs
OwnValues (broken vs p) = AllOwn vs

with-own : (v : Value) (vs : Values) → Own v → OwnValues vs → OwnValues (with v vs)
with-own v (complete vs) o os = (o, os)
with-own v (broken vs p) o os = (o, os)

onward-own : (at : ℕ) (s : Kinds) (f : Option Value) (rest : Unit {0} → Values) → OwnField f → OwnValues (rest tt) → OwnValues (onward at (conformed s f) rest)
onward-own at s None rest o os = tt
onward-own at s (Some v) rest o os = go (has s (kind_of v))
  where
    go : (b : Bool) → OwnValues (onward at (cond b (Some v) None) rest)
    go true = with-own v (rest tt) o os
    go false = tt

values-own : (at : ℕ) (ss : List Kinds) (fs : List (List ℕ)) → OwnValues (values_from at ss fs)
values-own at [] fs = tt
values-own at (s ∷ ss) [] = tt
values-own at (s ∷ ss) (f ∷ fs) = onward-own at s (field_of at f) _ (field-own at f) (values-own (at + length f + 1) ss fs)

abbrev OwnEntered : Judged Values → Type 0
OwnEntered (refused r) = Unit {0}
OwnEntered (fine vs) = OwnValues vs

line-own : (sets : List Kinds) (number : ℕ) (text : List ℕ) → OwnEntered (entered_of sets number text)
line-own sets number text = by-line sets number text OwnEntered tt tt tt tt (λ h k n. values-own (length (field text 0) + 1) sets (drop 1 (fields text)))

pub read-own : (sets : List Kinds) (number : ℕ) (text : List ℕ) (vs : List Value) → entered_of sets number text ≡ fine (complete vs) → AllOwn vs
read-own sets number text vs e = subst OwnEntered e (line-own sets number text)
