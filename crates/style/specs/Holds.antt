-- What the plan and the room of an accepted head hold: for each name of the style its kinds, and for each expression where it lies and,
-- beside it, its tree.
use Rattle.std.specs.Prelude.{◌≡◌, List, [], ◌∷◌, ℕ, suc, ◌+◌, ◌<◌, ◌≤◌, length, get_or}
use Rattle.std.proofs.Math.Seq.{slice}
use Rattle.kind.specs.Set.{single_of}
use Rattle.kind.specs.declared.kind.Kind.TheVariants.{Undefined}
use Rattle.plan.specs.Layout.{most_properties, most_defines, most_conditions, first_define, show_row, colour_row, test_row, result_row}
use Rattle.plan.specs.Layout.{property_count, define_count, show_count, colour_count, condition_count, from_place, to_place, root_place}
use Rattle.plan.specs.Layout.{plan_size}
use Rattle.tree.specs.Tree.{place}
use Rattle.syntax.specs.Judge.{slots_after}
use Rattle.checker.specs.Name.{resolved_slots}
use Rattle.checker.specs.Property.{property_kinds, set_at}
use Rattle.checker.specs.declared.name.Scope.{Scope}
use Rattle.checker.specs.declared.name.Scope.TheVariants as scope
use Rattle.style.specs.Style.{Declared, Expression, Define, Condition, Style, number_in}

-- each element of a list is as asked, by its index, which counts from i
abbrev pub Each : {A : Type 0} → (ℕ → A → Type 0) → ℕ → List A → Type 0
Each P i [] = Unit {0}
Each P i (x ∷ xs) = P i x × Each P (suc i) xs

-- ---- what is no expression

pub record Counted (plan : List ℕ) (s : Style) : Type 0 where
  pub properties : get_or plan property_count 0 ≡ length s.properties
  pub defines : get_or plan define_count 0 ≡ length s.defines
  pub shows : get_or plan show_count 0 ≡ length s.shows
  pub colours : get_or plan colour_count 0 ≡ length s.colours
  pub conditions : get_or plan condition_count 0 ≡ length s.conditions

-- the sets of names; a number that no name has is an undeclared name's
pub record Sets (plan : List ℕ) (s : Style) : Type 0 where
  pub properties : Each (λ i (d : Declared). set_at plan i ≡ property_kinds d.property) 0 s.properties
  pub no-properties : (i : ℕ) → length s.properties ≤ i → i < most_properties → set_at plan i ≡ single_of Undefined
  pub defines : Each (λ i (d : Define). set_at plan (first_define + i) ≡ d.expression.kinds) 0 s.defines
  pub no-defines : (i : ℕ) → length s.defines ≤ i → i < most_defines → set_at plan (first_define + i) ≡ single_of Undefined

-- "32 properties; 16 defines; 16 `cond` lines", "At most one `show` and one `color`"
pub record Few (s : Style) : Type 0 where
  pub properties : length s.properties ≤ most_properties
  pub defines : length s.defines ≤ most_defines
  pub shows : length s.shows ≤ 1
  pub colours : length s.colours ≤ 1
  pub conditions : length s.conditions ≤ most_conditions

-- ---- expressions

-- An expression lies from a place of a text up to another, and beside it its tree, every variable with its name's number; what stood
-- there before doesn't matter.
pub record Laid (number : List ℕ → ℕ) (text room : List ℕ) (from to root : ℕ) (e : Expression) : Type 0 where
  pub order : from ≤ to
  pub inside : to ≤ length text
  pub is : slice from to text ≡ e.text
  pub rooted : root ≡ place e.tree
  pub before : List ℕ
  pub size : length before ≡ length e.text
  pub beside : slice from to room ≡ resolved_slots number e.text (slots_after before e.text)

-- the expression of a row
abbrev pub Held : Scope → List ℕ → List ℕ → List ℕ → Style → ℕ → Expression → Type 0
Held c head room plan s row e =
    Laid (number_in c s) head room (get_or plan (from_place row) 0) (get_or plan (to_place row) 0) (get_or plan (root_place row) 0) e

-- an expression of `show`, `color` or `cond` begins behind the end of every define's
abbrev pub Behind : List ℕ → Style → ℕ → Type 0
Behind plan s row = (i : ℕ) → i < length s.defines → get_or plan (to_place i) 0 ≤ get_or plan (from_place row) 0

abbrev pub StyleHeld : List ℕ → List ℕ → List ℕ → Style → ℕ → Expression → Type 0
StyleHeld head room plan s row e = Held scope.Style head room plan s row e × Behind plan s row

-- the rows: defines, `show`, `color`, and each condition with its colour
pub record Expressed (head room plan : List ℕ) (s : Style) : Type 0 where
  pub defines : Each (λ i (d : Define). Held scope.Define head room plan s i d.expression) 0 s.defines
  pub shows : Each (λ i (e : Expression). StyleHeld head room plan s (show_row + i) e) 0 s.shows
  pub colours : Each (λ i (e : Expression). StyleHeld head room plan s (colour_row + i) e) 0 s.colours
  pub conditions :
      Each (λ i (c : Condition Expression). StyleHeld head room plan s (test_row i) c.test
      × StyleHeld head room plan s (result_row i) c.colour) 0 s.conditions

pub record Holds (head room plan : List ℕ) (s : Style) : Type 0 where
  pub size : length plan ≡ plan_size
  pub few : Few s
  pub counted : Counted plan s
  pub sets : Sets plan s
  pub expressed : Expressed head room plan s
