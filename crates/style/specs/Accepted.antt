-- What is true of a style that items give: page 01, "What the painter reads", "Sizes" and "Kinds and meaning" ("`show` and
-- conditions must end in Boolean, colours in vec4, defines in any kind.").
use Rattle.std.specs.Prelude.{◌≡◌, true, List, [], ◌∷◌, ◌⊎◌, length, Ok}
use Rattle.lexer.specs.Refusal.{fine}
use Rattle.syntax.specs.Judge.{judged_of}
use Rattle.checker.specs.declared.name.Scope.{Scope}
use Rattle.checker.specs.declared.name.Scope.TheVariants as scope
use Rattle.checker.specs.declared.check.Wanted.{Wanted}
use Rattle.checker.specs.declared.check.Wanted.TheVariants as wanted
use Rattle.style.specs.Style.{Declared, Expression, Define, Condition, Style, kinds_in}
use Rattle.style.specs.Expression.{verdict_on}
use Rattle.style.specs.Holds.{Each, Few}
use Rattle.style.specs.Items.{is_declared}

-- its tree is the one of its text, and it has its kinds by what the names stand for in the style, each of them wanted
pub record Stands (c : Scope) (want : Wanted) (s : Style) (e : Expression) : Type 0 where
  pub judged : judged_of e.text ≡ fine e.tree
  pub checked : verdict_on (kinds_in c s) want e.text e.tree ≡ Ok e.kinds

pub record AllStand (s : Style) : Type 0 where
  pub defines : Each (λ i (d : Define). Stands scope.Define wanted.Any s d.expression) 0 s.defines
  pub shows : Each (λ i (e : Expression). Stands scope.Style wanted.Boolean s e) 0 s.shows
  pub colours : Each (λ i (e : Expression). Stands scope.Style wanted.Vec4 s e) 0 s.colours
  pub conditions :
      Each (λ i (c : Condition Expression). Stands scope.Style wanted.Boolean s c.test
      × Stands scope.Style wanted.Vec4 s c.colour) 0 s.conditions

-- each property has a type and flags
abbrev pub AllDeclared : List Declared → Type 0
AllDeclared [] = Unit {0}
AllDeclared (d ∷ ds) = (is_declared d.property ≡ true) × AllDeclared ds

-- its lists are within the sizes, its properties declared, and "`color` and `cond` don't stand together"
pub record Whole (s : Style) : Type 0 where
  pub few : Few s
  pub declared : AllDeclared s.properties
  pub apart : (length s.colours ≡ 0) ⊎ (length s.conditions ≡ 0)
