-- What a style gives a feature, from the values of its expressions: page 01, "What the painter reads", "Kinds and meaning" and "What each
-- answer owes". An expression may be anything that has a value: one of a style (`Meaning`), or a row of a plan (`Applied`).
use Rattle.std.specs.Prelude.{◌≡◌, Bool, true, false, cond, List, [], ◌∷◌, ◌++◌, map, Option, Some, None}
use Rattle.colour.specs.Colour.{clamped_of}
use Rattle.value.specs.Value.{truth, colour_in}
use Rattle.value.specs.Meaning.{white}
use Rattle.value.specs.declared.value.Value.{Value}
use Rattle.checker.specs.declared.check.Wanted.{Wanted}
use Rattle.checker.specs.declared.check.Wanted.TheVariants as wanted
use Rattle.style.specs.Style.{Condition}
use Rattle.painter.specs.declared.answer.Given.{Given}
use Rattle.colour.specs.declared.colour.Colour.{Colour}

-- an expression that is worked out, with what its line takes
pub record Asked (E : Type 0) : Type 0 where
  pub want : Wanted
  pub expression : E

abbrev pub asked : {E : Type 0} → Wanted → E → Asked E
asked want e = record { want = want; expression = e }

module _ {E : Type 0} (value : E → Value) where
  abbrev pub is_true : E → Bool
  is_true e = truth (value e)

  -- "each below 0 or NaN becomes 0, above 1 becomes 1"
  abbrev pub colour_by : E → Option Colour
  colour_by e = Some (clamped_of (colour_in (value e)))

  -- ---- what is given

  -- "Without `show` a strip shows"
  abbrev pub shown_by : List E → Bool
  shown_by [] = true
  shown_by (e ∷ es) = is_true e

  -- the first true condition decides, and there is no colour if none is true
  abbrev pub conditioned_by : List (Condition E) → Option Colour
  conditioned_by [] = None
  conditioned_by (c ∷ cs) = cond (is_true c.test) (colour_by c.colour) (conditioned_by cs)

  -- "without `color` and `cond` it is white"
  abbrev pub coloured_by : List E → List (Condition E) → Option Colour
  coloured_by (e ∷ es) cs = colour_by e
  coloured_by [] [] = Some white
  coloured_by [] (c ∷ cs) = conditioned_by (c ∷ cs)

  -- by the expressions of `show`, of `color` and of `cond`
  abbrev pub given_by : List E → List E → List (Condition E) → Given
  given_by shows colours conditions = record { show = shown_by shows; colouring = coloured_by colours conditions }

  -- none of some conditions is true
  abbrev pub NoneTrue : List (Condition E) → Type 0
  NoneTrue [] = Unit {0}
  NoneTrue (c ∷ cs) = (is_true c.test ≡ false) × NoneTrue cs

  -- ---- what is worked out

  -- "the conditions in turn until one is true, then its colour"
  abbrev pub until_true : List (Condition E) → List (Asked E)
  until_true [] = []
  until_true (c ∷ cs) = asked wanted.Boolean c.test ∷ cond (is_true c.test) (asked wanted.Vec4 c.colour ∷ []) (until_true cs)

  -- "What is worked out for a strip is `show`, the conditions in turn until one is true, then its colour, or `color`"
  abbrev pub worked_out : List E → List E → List (Condition E) → List (Asked E)
  worked_out shows colours conditions = map (asked wanted.Boolean) shows ++ (until_true conditions ++ map (asked wanted.Vec4) colours)
