use mathlib.Core.Path.{◌≡◌, ap, ◌∙◌}
use mathlib.Core.List.{List, [], ◌++◌}
use Rattle.std.proofs.Common.{rules, tests}
use Rattle.std.proofs.lemmas.Iterator.{YieldsList-from_slice}
use Rattle.std.proofs.lemmas.Iterator.Search.{any_from_yields_List}
use Rattle.kind.specs.Set.{set_of, empty_of}
use Rattle.kind.specs.Rule.{rule_of}
use Rattle.kind.specs.Choice.{node_kinds}
use Rattle.kind.specs.Inner.{choices_of}
use Rattle.kind.specs.declared.kind.Kind.{Kind}
use Rattle.kind.specs.declared.operation.Operation.{Operation}
use Rattle.kind.specs.declared.set.Kinds.{Kinds}
use Rattle.kind.proofs.AnyCount.{over-four-parts}
use Rattle.kind.proofs.choice.node_kinds.Goals as goal

none-chosen : (o : Operation) (js : List Kind) (ss : List Kinds) → js ≡ [] → choices_of (λ ks. rule_of o (js ++ ks)) ss ≡ node_kinds o ss
unfolding choices_of node_kinds
none-chosen o js ss e = ap (λ js. choices_of (λ ks. rule_of o (js ++ ks)) ss) e

pub returns-then-parts-gt-MOST_OPERANDS : goal.returns-then-parts-gt-MOST_OPERANDS
unfolding set_of
returns-then-parts-gt-MOST_OPERANDS c =
    c.then_some.ensures
    ∙ over-four-parts c.args.operation c.args.parts.now c.if-parts-gt-MOST_OPERANDS.true c.any.result
    (any_from_yields_List empty_of _ _ _ c.any.ensures.ran (YieldsList-from_slice c.args.parts.now cc) (λ x b q k. search (rules, tests)))

pub returns : goal.returns
returns c = c.choices.ensures.given ∙ none-chosen _ _ _ c.new.ensures
