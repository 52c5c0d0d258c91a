use mathlib.Core.Path.{◌≡◌}
use mathlib.Core.List.{◌++◌}
use Rattle.std.proofs.Common.{length, take}
use Rattle.std.specs.Prelude.{Some}
use Rattle.kind.specs.Kind.{kinds}
use Rattle.kind.specs.Rule.{rule_of}
use Rattle.kind.proofs.Law.Choices.{given_by}
use Rattle.kind.proofs.choice.+choices.Given as goal

-- The invariant: the choices whose first kind is one of those before the present one give the kinds so far.
abbrev pub invariant-loop-kind : goal.invariant-loop-kind
invariant-loop-kind l = record {
  given : Some l.kinds ≡ given_by (λ ks. rule_of l.operation (l.fn.chosen.items ++ ks)) l.set l.rest (take l.kind-index kinds);
  kept : l.chosen.items ≡ l.fn.chosen.items;
}

abbrev pub decreases-choices : goal.decreases-choices
decreases-choices l = length l.parts.now
