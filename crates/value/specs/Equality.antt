-- `===`: page 01, "Kinds and meaning". "`===` takes all kinds: false if they differ, strings by bytes, vectors by components, `NaN` equals
-- nothing."
use Rattle.std.specs.Prelude.{Bool, true, ◌&&◌, List, ℕ}
use Rattle.std.specs.Bool.{beq}
use Rattle.std.specs.Float.Ieee.{eq}
use Rattle.lexer.specs.Bytes.{same}
use Rattle.kind.specs.Kind.{eq_kind}
use Rattle.value.specs.Value.{kind_of, at, truth, span}
use Rattle.value.specs.declared.value.Span.{Span}
use Rattle.value.specs.declared.value.Value.{Value}
use Rattle.value.specs.declared.value.Value.TheVariants.{Undefined, Null, Boolean, Number, String, Vec2, Vec3, Vec4}

-- the parts of a value equal those of another of its kind; `text` gives a string's bytes
abbrev pub parts_equal : (Span → List ℕ) → Value → Value → Bool
parts_equal text Undefined v = true
parts_equal text Null v = true
parts_equal text (Boolean b) v = beq b (truth v)
parts_equal text (Number x) v = eq x (at 0 v)
parts_equal text (String s) v = same (text s) (text (span v))
parts_equal text (Vec2 x y) v = eq x (at 0 v) && eq y (at 1 v)
parts_equal text (Vec3 x y z) v = eq x (at 0 v) && (eq y (at 1 v) && eq z (at 2 v))
parts_equal text (Vec4 x y z w) v = eq x (at 0 v) && (eq y (at 1 v) && (eq z (at 2 v) && eq w (at 3 v)))

unfoldable pub equal_of : (Span → List ℕ) → Value → Value → Bool
equal_of text v w = eq_kind (kind_of v) (kind_of w) && parts_equal text v w
