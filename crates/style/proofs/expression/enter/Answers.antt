use mathlib.Core.Path.{◌∙◌, ap}
use Rattle.std.proofs.lemmas.Result.{err_from_is_err_and}
use Rattle.checker.specs.Name.{number_of, resolved_slots}
use Rattle.style.proofs.Law.Expressions.{judge-refuses, check-refuses, check-accepts}
use Rattle.style.proofs.expression.enter.Goals as goal

pub returns-in_err-root : goal.returns-in_err-root
returns-in_err-root c =
    let p = err_from_is_err_and c.from_residual.result c.from_residual.ensures.1 in
    rw (p.1, p.2) (judge-refuses c.args.purpose c.args.before.now c.args.text.now c.args.slots.now c.requires _ c.judge.ensures.0 _ c.in_err-root.was c.judge.new.slots)

pub returns-in_err-set : goal.returns-in_err-set
returns-in_err-set c =
    let p = err_from_is_err_and c.from_residual-in_err-set.result c.from_residual-in_err-set.ensures.1 in
    let beside = c.resolve.ensures ∙ ap (resolved_slots (number_of c.scope.result c.args.before.now.head.now c.args.before.now.names.now) c.args.text.now) c.judge.ensures.1 in
    rw (p.1, p.2) (check-refuses c.args.purpose c.args.before.now c.args.text.now c.args.slots.now c.requires _ c.judge.ensures.0 _ c.in_ok-root.was _ c.scope.ensures _ beside _ c.wanted.ensures _ c.check.ensures _ c.in_err-set.was)

pub returns : goal.returns
returns c =
    let beside = c.resolve.ensures ∙ ap (resolved_slots (number_of c.scope.result c.args.before.now.head.now c.args.before.now.names.now) c.args.text.now) c.judge.ensures.1 in
    check-accepts c.args.purpose c.args.before.now c.args.text.now c.args.slots.now c.requires _ c.judge.ensures.0 _ c.in_ok-root.was _ c.scope.ensures _ beside _ c.wanted.ensures _ c.check.ensures _ _ c.in_ok-set.was c.packed.ensures
