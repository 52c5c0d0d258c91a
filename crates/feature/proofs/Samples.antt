-- Every choice of samples has a line that is read as these values.
use Rattle.std.specs.Prelude.{Some}
use mathlib.Core.Path.{◌≡◌, refl, ◌∙◌, ap}
use mathlib.Core.Bool.{Bool, true, false, not}
use mathlib.Core.List.{List, [], ◌∷◌, ◌++◌, map, append-nil}
use Prim.Native.Nat.{ℕ, zero, suc, ◌+◌, ◌-◌, ◌*◌, ◌≤◌, ◌<◌}
use native.Mathlib.Omega.{arith}
use borrow.Author.Tests.{eq-eqb, le-leb, le-ltb}
use lib.Dec.{T, eqb}
use lib.Ieee.{of_int, div, round}
use lib.Ieee.Bits.{is_true}
use lib.ListN.{length, get_or, length-append, length-map}
use Rattle.number.specs.Decimal.{digits, whole_part, fraction, joined, read_at, ten_to, value_of}
use Rattle.lexer.specs.Refusal.{fine}
use Rattle.lexer.specs.Spelling.{All}
use Rattle.kind.specs.Set.{has, single_of}
use Rattle.kind.specs.declared.kind.Kind.{Kind}
use Rattle.kind.specs.declared.kind.Kind.TheVariants as kind
use Rattle.kind.proofs.Law.Sets.{in-single, in_left, in_right}
use Rattle.value.specs.Value.{kind_of}
use Rattle.value.specs.declared.value.Value.TheVariants.{Undefined}
use Rattle.plan.specs.Layout.{most_properties}
use Rattle.checker.specs.Property.{undeclared, declared, only_if}
use Rattle.text.specs.Parts.{fields}
use Rattle.text.specs.Word.{feature_word}
use Rattle.text.proofs.Law.Parts.{parted-joined, parted-alone}
use Rattle.feature.specs.Field.{numeral_of, numbers_of, longest_string, filled_of, field_of, conformed}
use Rattle.feature.specs.Feature.{complete, with, values_from, feature_size, most_features, fields_entered, entered_of, values_of, feature_of}
use Rattle.feature.specs.Sample.{absent, null, sample, Given, given, sample_text, sample_at, text_of, chosen_at, kinds_of, written, line_for, chosen_from, is_line_byte}

-- ---- a sample

pub sample-kind : (at : ℕ) (t : Kind) → kind_of (sample_at at t) ≡ t
sample-kind at kind.Undefined = refl
sample-kind at kind.Null = refl
sample-kind at kind.Boolean = refl
sample-kind at kind.Number = refl
sample-kind at kind.String = refl
sample-kind at kind.Vec2 = refl
sample-kind at kind.Vec3 = refl
sample-kind at kind.Vec4 = refl

sample-says : (at : ℕ) (t : Kind) → field_of at (sample_text t) ≡ Some (sample_at at t)
unfolding filled_of numbers_of numeral_of read_at digits whole_part fraction joined value_of ten_to of_int div round
sample-says at kind.Undefined = refl
sample-says at kind.Null = refl
sample-says at kind.Boolean = refl
sample-says at kind.Number = refl
sample-says at kind.String = rw (le-leb (at + 1 - (at + 1)) longest_string (omega arith))
sample-says at kind.Vec2 = refl
sample-says at kind.Vec3 = refl
sample-says at kind.Vec4 = refl

-- no field has a tab, and each is short
abbrev NoTab : List ℕ → Type 0
NoTab s = All (λ x. not (eqb x 9)) s

sample-whole : (t : Kind) → NoTab (sample_text t) × (length (sample_text t) ≤ 7)
sample-whole kind.Undefined = (tt, omega arith)
sample-whole kind.Null = ((tt, (tt, (tt, (tt, tt)))), omega arith)
sample-whole kind.Boolean = ((tt, (tt, (tt, (tt, tt)))), omega arith)
sample-whole kind.Number = ((tt, tt), omega arith)
sample-whole kind.String = ((tt, tt), omega arith)
sample-whole kind.Vec2 = ((tt, (tt, (tt, tt))), omega arith)
sample-whole kind.Vec3 = ((tt, (tt, (tt, (tt, (tt, tt))))), omega arith)
sample-whole kind.Vec4 = ((tt, (tt, (tt, (tt, (tt, (tt, (tt, tt))))))), omega arith)

-- ---- a property with what it is given

given-says : (at : ℕ) (g : Given) → field_of at (text_of g) ≡ Some (chosen_at at g)
given-says at (given undeclared c ok) = refl
given-says at (given (declared t a n) absent ok) = refl
given-says at (given (declared t a n) null ok) = sample-says at kind.Null
given-says at (given (declared t a n) sample ok) = sample-says at t

given-kind : (at : ℕ) (g : Given) → T (has (kinds_of g) (kind_of (chosen_at at g)))
given-kind at (given undeclared c ok) = absurd ok
given-kind at (given (declared t true n) absent ok) = in_right (single_of t) _ kind.Undefined (in_left (single_of kind.Undefined) (only_if n kind.Null) kind.Undefined (in-single kind.Undefined))
given-kind at (given (declared t false n) absent ok) = absurd ok
given-kind at (given (declared t a true) null ok) = in_right (single_of t) _ kind.Null (in_right (only_if a kind.Undefined) (single_of kind.Null) kind.Null (in-single kind.Null))
given-kind at (given (declared t a false) null ok) = absurd ok
given-kind at (given (declared t a n) sample ok) = rw (sample-kind at t) (in_left (single_of t) _ t (in-single t))

given-conforms : (at : ℕ) (g : Given) → conformed (kinds_of g) (field_of at (text_of g)) ≡ Some (chosen_at at g)
given-conforms at g = rw (given-says at g, is_true (has (kinds_of g) (kind_of (chosen_at at g))) (given-kind at g))

given-whole : (g : Given) → NoTab (text_of g) × (length (text_of g) ≤ 7)
given-whole (given undeclared c ok) = sample-whole kind.Undefined
given-whole (given (declared t a n) absent ok) = sample-whole kind.Undefined
given-whole (given (declared t a n) null ok) = sample-whole kind.Null
given-whole (given (declared t a n) sample ok) = sample-whole t

-- ---- a line

fields-written : (word : List ℕ) (gs : List Given) → NoTab word → fields (word ++ written gs) ≡ word ∷ map text_of gs
fields-written word [] h = ap fields (append-nil word) ∙ parted-alone 9 word h
fields-written word (g ∷ gs) h =
    parted-joined 9 word (text_of g ++ written gs) h ∙ ap (λ (fs : List (List ℕ)). word ∷ fs) (fields-written (text_of g) gs (given-whole g).0)

values-read : (at : ℕ) (gs : List Given) → values_from at (map kinds_of gs) (map text_of gs) ≡ complete (chosen_from at gs)
values-read at [] = refl
values-read at (g ∷ gs) = rw (given-conforms at g) (ap (with (chosen_at at g)) (values-read (at + length (text_of g) + 1) gs))

written-size : (gs : List Given) → length (written gs) ≤ 8 * length gs
written-size [] = omega arith
written-size (g ∷ gs) = omega (arith, length-append (text_of g) (written gs), (given-whole g).1, written-size gs)

-- ---- the theorems

pub sample-size : (gs : List Given) → length gs ≤ most_properties → length (line_for gs) ≤ feature_size
sample-size gs h = omega (arith, written-size gs)

module _ (gs : List Given) (few : length gs ≤ most_properties) (number : ℕ) (small : number ≤ most_features) where
  pub sample-read : entered_of (map kinds_of gs) number (line_for gs) ≡ fine (complete (chosen_from 5 gs))
  unfolding entered_of fields_entered
  sample-read =
      let f = fields-written feature_word gs (tt, (tt, (tt, (tt, tt)))) in
      let n : suc (length (map text_of gs)) ≡ length (map kinds_of gs) + 1 = omega (arith, length-map gs text_of, length-map gs kinds_of) in
      rw (le-ltb feature_size (length (line_for gs)) (sample-size gs few), le-ltb most_features number small, f, fields_entered, f, eq-eqb _ _ n, f) (ap fine (values-read 5 gs))

  pub sample-answer : feature_of (map kinds_of gs) number (line_for gs) ≡ fine tt
  sample-answer = rw sample-read

  pub sample-values : values_of (entered_of (map kinds_of gs) number (line_for gs)) ≡ chosen_from 5 gs
  sample-values = rw sample-read

-- there is a value for each property, which is the chosen one, at some place
pub chosen-length : (at : ℕ) (gs : List Given) → length (chosen_from at gs) ≡ length gs
chosen-length at [] = refl
chosen-length at (g ∷ gs) = ap suc (chosen-length (at + length (text_of g) + 1) gs)

pub chosen-each : (at : ℕ) (gs : List Given) (i : ℕ) (none : Given) → i < length gs → (p : ℕ) × (get_or (chosen_from at gs) i Undefined ≡ chosen_at p (get_or gs i none))
chosen-each at [] i none h = absurd (omega arith)
chosen-each at (g ∷ gs) zero none h = (at, refl)
chosen-each at (g ∷ gs) (suc i) none h = chosen-each (at + length (text_of g) + 1) gs i none (omega arith)

-- ---- such a line is a text's: bytes, and none of them LF

all-joined : (p : ℕ → Bool) (a b : List ℕ) → All p a → All p b → All p (a ++ b)
all-joined p [] b f g = g
all-joined p (x ∷ a) b f g = (f.0, all-joined p a b f.1 g)

sample-bytes : (t : Kind) → All is_line_byte (sample_text t)
sample-bytes kind.Undefined = tt
sample-bytes kind.Null = (tt, (tt, (tt, (tt, tt))))
sample-bytes kind.Boolean = (tt, (tt, (tt, (tt, tt))))
sample-bytes kind.Number = (tt, tt)
sample-bytes kind.String = (tt, tt)
sample-bytes kind.Vec2 = (tt, (tt, (tt, tt)))
sample-bytes kind.Vec3 = (tt, (tt, (tt, (tt, (tt, tt)))))
sample-bytes kind.Vec4 = (tt, (tt, (tt, (tt, (tt, (tt, (tt, tt)))))))

given-bytes : (g : Given) → All is_line_byte (text_of g)
given-bytes (given undeclared c ok) = tt
given-bytes (given (declared t a n) absent ok) = tt
given-bytes (given (declared t a n) null ok) = sample-bytes kind.Null
given-bytes (given (declared t a n) sample ok) = sample-bytes t

written-bytes : (gs : List Given) → All is_line_byte (written gs)
written-bytes [] = tt
written-bytes (g ∷ gs) = (tt, all-joined is_line_byte (text_of g) (written gs) (given-bytes g) (written-bytes gs))

pub sample-line : (gs : List Given) → All is_line_byte (line_for gs)
sample-line gs = all-joined is_line_byte feature_word (written gs) (tt, (tt, (tt, (tt, tt)))) (written-bytes gs)
