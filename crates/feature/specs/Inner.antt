-- What the functions promise to each other.
use Rattle.std.specs.Prelude.{◌≡◌, List, ℕ, Float, Option, Some, None, Result}
use Rattle.lexer.specs.Refusal.{on_fine}
use Rattle.value.specs.declared.value.Value.{Value}
use Rattle.value.specs.declared.value.Value.TheVariants.{Undefined, Null, Boolean, Number, String, Vec2, Vec3, Vec4}
use Rattle.feature.specs.Feature.{fields_entered, all_conform, values_of, answer_of, sets_from, values_with}
use Rattle.lexer.specs.declared.refusal.Refusal.{Refusal}

-- a value with one number more; what is Undefined has none yet
abbrev pub longer : Value → Float → Option Value
longer Undefined x = Some (Number x)
longer Null x = None
longer (Boolean b) x = None
longer (Number a) x = Some (Vec2 a x)
longer (String s) x = None
longer (Vec2 a b) x = Some (Vec3 a b x)
longer (Vec3 a b c) x = Some (Vec4 a b c x)
longer (Vec4 a b c d) x = None

-- the fields of a line, for so many properties of a plan, and the values of names before and after
pub record FieldsBy (plan : List ℕ) (properties : ℕ) (text : List ℕ) (values values' : List Value)
    (r : Result (Unit {0}) Refusal) : Type 0 where
  pub answer : answer_of r ≡ on_fine (fields_entered (sets_from plan 0 properties) text) all_conform
  pub all-stored : values' ≡ values_with 0 (values_of (fields_entered (sets_from plan 0 properties) text)) values
