-- What is worked out for a feature, and the nodes that are entered in it: page 01, "What each answer owes" ("What is worked out for a strip
-- is `show`, the conditions in turn until one is true, then its colour, or `color`, and each define whenever its name is worked out in
-- these").
use Rattle.std.specs.Prelude.{List, [], ◌∷◌, ◌++◌, ℕ}
use Rattle.value.specs.declared.value.Value.{Value}
use Rattle.checker.specs.Name.{name_at}
use Rattle.evaluator.specs.Entries.{Entered, entries_of}
use Rattle.style.specs.Style.{Expression, Style}
use Rattle.painter.specs.Given.{Asked, worked_out}
use Rattle.painter.specs.Meaning.{property_outcome, context_at, by_define, strings_of, name_outcome, own_base, value_of}

-- the expressions
abbrev pub worked_out_of : Style → List ℕ → List Value → List (Asked Expression)
worked_out_of s feature vs = worked_out (value_of s feature vs) s.shows s.colours s.conditions

module _ (s : Style) (feature : List ℕ) (vs : List Value) where
  -- a name that is worked out in an expression enters the nodes of its define; a property has none, and "inside a define every name is a
  -- property"
  abbrev pub named_entries : Expression → List ℕ → List Entered
  named_entries e x =
      let strings = strings_of s feature e in
      by_define (λ base d. entries_of (context_at strings base (property_outcome s vs) d) (λ p n. []) d.tree) 0 s.defines [] x

  abbrev pub entries_in : Expression → List Entered
  entries_in e =
      let c = context_at (strings_of s feature e) (own_base s) (name_outcome s feature vs e) e in
      entries_of c (λ p n. named_entries e (name_at e.text p)) e.tree

  abbrev pub entries_in_all : List (Asked Expression) → List Entered
  entries_in_all [] = []
  entries_in_all (x ∷ xs) = entries_in x.expression ++ entries_in_all xs

  -- all nodes, in the order in which they are entered
  abbrev pub entries_for : List Entered
  entries_for = entries_in_all (worked_out_of s feature vs)
