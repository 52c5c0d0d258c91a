use Rattle.std.specs.Prelude.{Some, None}
use mathlib.Core.Path.{◌≡◌, refl, sym, ap, ◌∙◌}
use mathlib.Core.List.{◌++◌}
use Prim.Native.Nat.{◌-◌, ◌<◌}
use mathlib.Core.Bool.{false}
use native.Mathlib.Omega.{arith}
use lib.ListN.{length, take, drop}
use Rattle.std.proofs.lemmas.Grind.{common_steps}
use Rattle.std.specs.Option.{option_map}
use Rattle.std.proofs.Common.{rules}
use Rattle.std.proofs.lemmas.Slice.{first_rest}
use Rattle.kind.specs.Set.{set_of, single_of}
use Rattle.kind.specs.Rule.{rule_of}
use Rattle.kind.specs.Inner.{choices_of}
use Rattle.kind.proofs.Law.Choices.{no-parts, at-passed, at-given, at-faulted, all-given}
use Rattle.kind.proofs.choice.+choices.Goals as goal
use Rattle.kind.proofs.choice.+choices.Goals.{then-has+in_ok-more, else-has}

pub returns-in_default-clause-given : goal.returns-in_default-clause-given
returns-in_default-clause-given t c =
    let m : c.map.result ≡ option_map single_of c.rule.result = search rules in
    m ∙ ap (option_map single_of) (c.rule.ensures ∙ ap (rule_of c.args.operation) c.deref.ensures.0) ∙ no-parts c.args.operation c.args.chosen.now.items c.args.parts.now c.in_default.len_below

pub loop-kind-init : goal.loop-kind-init
unfolding set_of
loop-kind-init t c = record { given = refl; kept = refl }

pub returns-in_err-more-clause-given : goal.returns-in_err-more-clause-given
unfolding set_of
returns-in_err-more-clause-given t c =
    let ss = c.args.parts.now in
    let inside : c.loop-kind.kind-index < 8 = omega arith in
    let some : 0 < length ss = omega arith in
    let faulted : c.choices-given.result ≡ None = search rules in
    c.from_residual.ensures
    ∙ at-faulted c.args.operation c.args.chosen.now.items _ (take (length ss - 1) (drop 1 ss)) _ _ inside c.has.result c.has.ensures c.if-has.true
    _ c.loop-kind.invariant.kept _ c.push.ensures.items
    c.choices-given.result c.choices-given.ensures.given faulted
    ∙ ap (choices_of (λ ks. rule_of c.args.operation (c.args.chosen.now.items ++ ks))) (sym (first_rest ss (set_of (λ k. false)) some))

pub loop-kind-preserved : goal.loop-kind-preserved
loop-kind-preserved t c =
    let ss = c.args.parts.now in
    let inside : c.loop-kind.kind-index < 8 = omega arith in
    elim c.if-has.branch [
      | then-has+in_ok-more w ↦ let gave : w.choices-given.result ≡ Some w.in_ok-more.more = search rules in record {
        given =
            at-given c.args.operation c.args.chosen.now.items _ (take (length ss - 1) (drop 1 ss)) c.loop-kind.kind-index _ inside c.has.result c.has.ensures w.if-has.true
            _ c.loop-kind.invariant.kept _ w.push.ensures.items
            w.choices-given.result w.choices-given.ensures.given c.loop-kind.kinds w.in_ok-more.more _ c.loop-kind.invariant.given gave (w.kinds-is ∙ w.union-kinds.ensures);
        kept = grind (arith, common_steps);
      }
      | else-has w ↦ record {
        given =
            rw w.kinds-is
            (at-passed c.args.operation c.args.chosen.now.items _ (take (length ss - 1) (drop 1 ss)) c.loop-kind.kind-index _ inside c.has.result c.has.ensures w.if-has.false c.loop-kind.kinds c.loop-kind.invariant.given);
        kept = grind (arith, common_steps);
      }
    ]

pub returns-clause-given : goal.returns-clause-given
unfolding set_of
returns-clause-given t c =
    let ss = c.args.parts.now in
    let done : c.loop-kind.kind-index ≡ 8 = omega arith in
    let some : 0 < length ss = omega arith in
    all-given c.args.operation c.args.chosen.now.items _ _ _ _ done c.loop-kind.invariant.given
    ∙ ap (choices_of (λ ks. rule_of c.args.operation (c.args.chosen.now.items ++ ks))) (sym (first_rest ss (set_of (λ k. false)) some))
