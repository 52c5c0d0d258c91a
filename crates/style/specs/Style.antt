-- What a head gives: page 01, "What the painter reads", "Sizes" and "Kinds and meaning".
use Rattle.std.specs.Prelude.{Bool, true, false, cond, ◌&&◌, List, [], ◌∷◌, ◌++◌, map, ℕ, suc, eqb, ltb, length}
use Rattle.lexer.specs.Bytes.{same}
use Rattle.kind.specs.declared.set.Kinds.{Kinds}
use Rattle.plan.specs.Layout.{most_properties, most_defines, most_conditions, first_define}
use Rattle.plan.specs.Layout as layout
use Rattle.tree.specs.Tree.{Tree}
use Rattle.checker.specs.Property.{Property, undeclared, property_kinds}
use Rattle.checker.specs.declared.name.Scope.{Scope}
use Rattle.checker.specs.declared.name.Scope.TheVariants as scope
use Rattle.text.specs.declared.word.Line.{Line}
use Rattle.text.specs.declared.word.Line.TheVariants as line

-- a property by its name
pub record Declared : Type 0 where
  pub name : List ℕ
  pub property : Property

-- an expression, with its tree and the kinds that it may end in
pub record Expression : Type 0 where
  pub text : List ℕ
  pub tree : Tree
  pub kinds : Kinds

pub record Define : Type 0 where
  pub name : List ℕ
  pub expression : Expression

-- a condition and its colour; the expressions are those of a style, or what stands for them
pub record Condition (E : Type 0) : Type 0 where
  pub test : E
  pub colour : E

-- The schema and the style; of `show` and `color` there is at most one.
pub record Style : Type 0 where
  pub properties : List Declared
  pub defines : List Define
  pub shows : List Expression
  pub colours : List Expression
  pub conditions : List (Condition Expression)

abbrev pub listed : List Declared → List Define → List Expression → List Expression → List (Condition Expression) → Style
listed ps ds ss cs ks = record { properties = ps; defines = ds; shows = ss; colours = cs; conditions = ks }

abbrev pub empty : Style
empty = listed [] [] [] [] []

-- ---- what a line adds

pub data Entry : Type 0 where
  property : Declared → Entry
  define : Define → Entry
  show : Expression → Entry
  colour : Expression → Entry
  condition : Condition Expression → Entry

abbrev pub with : Style → Entry → Style
with s (property d) = listed (s.properties ++ d ∷ []) s.defines s.shows s.colours s.conditions
with s (define d) = listed s.properties (s.defines ++ d ∷ []) s.shows s.colours s.conditions
with s (show e) = listed s.properties s.defines (s.shows ++ e ∷ []) s.colours s.conditions
with s (colour e) = listed s.properties s.defines s.shows (s.colours ++ e ∷ []) s.conditions
with s (condition c) = listed s.properties s.defines s.shows s.colours (s.conditions ++ c ∷ [])

-- ---- which line may stand behind so many others

-- "All `prop` lines come first, then all `define` lines, then the other style lines"; "32 properties; 16 defines; 16 `cond` lines"; "At
-- most one `show` and one `color`; `color` and `cond` don't stand together."
unfoldable pub admits : Line → ℕ → ℕ → ℕ → ℕ → ℕ → Bool
admits line.Prop properties defines shows colours conditions =
    ltb properties most_properties && (eqb defines 0 && (eqb shows 0 && (eqb colours 0 && eqb conditions 0)))
admits line.Define properties defines shows colours conditions =
    ltb defines most_defines && (eqb shows 0 && (eqb colours 0 && eqb conditions 0))
admits line.Show properties defines shows colours conditions = ltb shows 1
admits line.Color properties defines shows colours conditions = ltb colours 1 && eqb conditions 0
admits line.Cond properties defines shows colours conditions = ltb conditions most_conditions && eqb colours 0
admits line.Feat properties defines shows colours conditions = false

abbrev pub admits_to : Style → Line → Bool
admits_to s l = admits l (length s.properties) (length s.defines) (length s.shows) (length s.colours) (length s.conditions)

-- ---- names

-- whether a name is one of some
abbrev pub is_among : List (List ℕ) → List ℕ → Bool
is_among [] x = false
is_among (n ∷ ns) x = cond (same x n) true (is_among ns x)

abbrev pub name_of : Declared → List ℕ
name_of d = d.name

abbrev pub define_name : Define → List ℕ
define_name d = d.name

abbrev pub property_in : List Declared → List ℕ → Property
property_in [] x = undeclared
property_in (d ∷ ds) x = cond (same x d.name) d.property (property_in ds x)

-- the kinds of a define's expression, or what its name stands for if it is none
abbrev pub defined_in : List Define → List ℕ → Kinds → Kinds
defined_in [] x other = other
defined_in (d ∷ ds) x other = cond (same x d.name) d.expression.kinds (defined_in ds x other)

-- "In `show`, `color` and `cond` a define hides a property of its name; inside a define every name is a property."
abbrev pub kinds_in : Scope → Style → List ℕ → Kinds
kinds_in scope.Define s x = property_kinds (property_in s.properties x)
kinds_in scope.Style s x = defined_in s.defines x (property_kinds (property_in s.properties x))

-- ---- the numbers of names

-- the number of the first that has a name, counted from one on, or another number
abbrev pub number_from : ℕ → List (List ℕ) → ℕ → List ℕ → ℕ
number_from n [] other x = other
number_from n (y ∷ ys) other x = cond (same x y) n (number_from (suc n) ys other x)

-- properties have theirs from 0 on, and defines behind the last that a property may have
abbrev pub number_in : Scope → Style → List ℕ → ℕ
number_in scope.Define s x = number_from 0 (map name_of s.properties) layout.undeclared x
number_in scope.Style s x =
    number_from first_define (map define_name s.defines) (number_from 0 (map name_of s.properties) layout.undeclared x) x
