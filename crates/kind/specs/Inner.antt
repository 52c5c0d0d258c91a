-- Definitions for private functions.
use Rattle.std.specs.Prelude.{cond, List, Option, Some, None}
use Rattle.kind.specs.Set.{set_of}
use Rattle.kind.specs.Choice.{some_choice, faults, gives}
use Rattle.kind.specs.declared.kind.Kind.{Kind}
use Rattle.kind.specs.declared.set.Kinds.{Kinds}

-- what the choices from sets give by a rule, or none if one of them faults
unfoldable pub choices_of : (List Kind → Option Kind) → List Kinds → Option Kinds
unfolding set_of
choices_of rule ss =
    cond (some_choice ss (λ ks. faults (rule ks))) None (Some (set_of (λ k. some_choice ss (λ ks. gives k (rule ks)))))
