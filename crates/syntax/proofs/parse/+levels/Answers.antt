use native.Mathlib.Omega.{arith}
use mathlib.Core.Path.{sym, ◌∙◌}
use Rattle.syntax.proofs.Law.Parts.{ahead-tree, parsed-exit}
use Rattle.syntax.proofs.Law.Levels.{conditionals, pairs, lists, first-bad, second-bad, both, expression-none, branches-none, arguments-last}
use Rattle.syntax.proofs.Law.Levels.{level-unary, binary-bad, binary-goes, tail-ends, tail-bad, tail-goes, prefix-operator, unary-none, unary-bad, unary-goes, postfix-bad, postfix-goes}
use Rattle.syntax.proofs.Law.Levels.{primary-literal, primary-variable, closes, closes-bad, primary-brackets, primary-call, primary-none, call_none, call-bare, call-bad, call-goes}
use Rattle.syntax.proofs.Law.Picks.{found, pick-sound, picks-none, picks-bad, picks-goes}
use Rattle.syntax.proofs.parse.+levels.Goals as goal

pub arguments-returns-in_err-first : goal.arguments-returns-in_err-first
arguments-returns-in_err-first t c =
    parsed-exit c.from_residual.ensures.1 (first-bad (lists _) _ c.expression.ensures c.in_err-first.was)

pub arguments-returns-then-comma-ne-COMMA : goal.arguments-returns-then-comma-ne-COMMA
arguments-returns-then-comma-ne-COMMA t c =
    arguments-last _ c.in_ok-first.was c.expression.ensures c.if-comma-ne-COMMA.true

pub arguments-returns-in_err-rest : goal.arguments-returns-in_err-rest
arguments-returns-in_err-rest t c =
    parsed-exit c.from_residual-in_err-rest.ensures.1 (second-bad (lists _) _ c.expression.ensures c.in_ok-first.was c.if-comma-ne-COMMA.false c.after.ensures c.arguments.ensures c.in_err-rest.was)

pub arguments-returns : goal.arguments-returns
arguments-returns t c =
    both (lists _) _ c.expression.ensures c.in_ok-first.was c.if-comma-ne-COMMA.false c.after.ensures c.arguments.ensures c.in_ok-rest.was c.comma.ensures

pub branches-returns-in_err-first : goal.branches-returns-in_err-first
branches-returns-in_err-first t c =
    parsed-exit c.from_residual.ensures.1 (first-bad (pairs _) _ c.expression.ensures c.in_err-first.was)

pub branches-returns-then-colon-ne-COLON : goal.branches-returns-then-colon-ne-COLON
branches-returns-then-colon-ne-COLON t c =
    branches-none _ c.in_ok-first.was c.expression.ensures c.if-colon-ne-COLON.true

pub branches-returns-in_err-second : goal.branches-returns-in_err-second
branches-returns-in_err-second t c =
    parsed-exit c.from_residual-in_err-second.ensures.1 (second-bad (pairs _) _ c.expression.ensures c.in_ok-first.was c.if-colon-ne-COLON.false c.after.ensures c.expression-2.ensures c.in_err-second.was)

pub branches-returns : goal.branches-returns
branches-returns t c =
    both (pairs _) _ c.expression.ensures c.in_ok-first.was c.if-colon-ne-COLON.false c.after.ensures c.expression-2.ensures c.in_ok-second.was c.branches.ensures

pub expression-returns-in_err-test : goal.expression-returns-in_err-test
expression-returns-in_err-test t c =
    parsed-exit c.from_residual.ensures.1 (first-bad (conditionals _) _ c.level.ensures c.in_err-test.was)

pub expression-returns-then-question-ne-QUESTION : goal.expression-returns-then-question-ne-QUESTION
expression-returns-then-question-ne-QUESTION t c =
    expression-none _ c.in_ok-test.was c.level.ensures c.if-question-ne-QUESTION.true

pub expression-returns-in_err-chosen : goal.expression-returns-in_err-chosen
expression-returns-in_err-chosen t c =
    parsed-exit c.from_residual-in_err-chosen.ensures.1 (second-bad (conditionals _) _ c.level.ensures c.in_ok-test.was c.if-question-ne-QUESTION.false c.after.ensures c.branches.ensures c.in_err-chosen.was)

pub expression-returns : goal.expression-returns
expression-returns t c =
    both (conditionals _) _ c.level.ensures c.in_ok-test.was c.if-question-ne-QUESTION.false c.after.ensures c.branches.ensures c.in_ok-chosen.was c.conditional.ensures

pub call-returns-then-bracket-ne-OPEN_ROUND : goal.call-returns-then-bracket-ne-OPEN_ROUND
call-returns-then-bracket-ne-OPEN_ROUND t c =
    call_none _ c.requires.0 c.requires.1 c.after-bracket.ensures c.if-bracket-ne-OPEN_ROUND.true

pub call-returns-then-first-eq-CLOSE_ROUND : goal.call-returns-then-first-eq-CLOSE_ROUND
call-returns-then-first-eq-CLOSE_ROUND t c =
    call-bare _ c.requires.0 c.requires.1 c.after-bracket.ensures c.if-bracket-ne-OPEN_ROUND.false c.after-first.ensures c.function-function.ensures c.if-first-eq-CLOSE_ROUND.true c.bare.ensures c.after.ensures

pub call-returns-in_err-inside : goal.call-returns-in_err-inside
call-returns-in_err-inside t c =
    parsed-exit c.from_residual.ensures.1 (call-bad _ c.requires.0 c.requires.1 c.after-bracket.ensures c.if-bracket-ne-OPEN_ROUND.false c.after-first.ensures c.if-first-eq-CLOSE_ROUND.false (closes-bad _ _ c.arguments.ensures c.in_err-inside.was) c.in_err-inside.was)

pub call-returns-in_err-given : goal.call-returns-in_err-given
call-returns-in_err-given t c =
    parsed-exit c.from_residual-in_err-given.ensures.1 (call-bad _ c.requires.0 c.requires.1 c.after-bracket.ensures c.if-bracket-ne-OPEN_ROUND.false c.after-first.ensures c.if-first-eq-CLOSE_ROUND.false (closes _ _ c.arguments.ensures c.in_ok-inside.was c.closed.ensures) c.in_err-given.was)

pub call-returns : goal.call-returns
call-returns t c =
    call-goes _ c.requires.0 c.requires.1 c.after-bracket.ensures c.if-bracket-ne-OPEN_ROUND.false c.after-first.ensures c.if-first-eq-CLOSE_ROUND.false (closes _ _ c.arguments.ensures c.in_ok-inside.was c.closed.ensures) c.function-function.ensures c.in_ok-given.was c.call.ensures

pub level-returns-then-k-eq0 : goal.level-returns-then-k-eq0
level-returns-then-k-eq0 t c =
    level-unary _ _ c.if-k-eq0.true c.unary.ensures

pub level-returns-in_err-left : goal.level-returns-in_err-left
level-returns-in_err-left t c =
    parsed-exit c.from_residual.ensures.1 (binary-bad _ _ _ (omega (arith, c.if-k-eq0.false)) c.level.ensures c.in_err-left.was)

pub level-loop-operator-init : goal.level-loop-operator-init
level-loop-operator-init t c =
    let a = ahead-tree c.level.ensures c.in_ok-left.was in
    (a.0, a.1, λ v r m. binary-goes _ _ _ (omega (arith, c.if-k-eq0.false)) c.level.ensures c.in_ok-left.was m)

pub level-returns-in_err-right : goal.level-returns-in_err-right
level-returns-in_err-right t c =
    let l = c.loop-operator in
    parsed-exit c.from_residual-in_err-right.ensures.1 (l.invariant.2 _ _
    (tail-bad _ l.left l.invariant.1 (sym c.precedence.ensures ∙ omega (arith, c.loop-operator-test.true, c.if-k-eq0.false)) c.after.ensures (omega (arith, c.requires, c.if-k-eq0.false)) c.level-in-loop-operator.ensures c.in_err-right.was))

pub level-loop-operator-preserved : goal.level-loop-operator-preserved
level-loop-operator-preserved t c =
    let l = c.loop-operator in
    let a = ahead-tree c.level-in-loop-operator.ensures c.in_ok-right.was in (
      omega (arith, l.invariant.0, l.invariant.1.before),
      record { sound = a.1.sound; before = omega (arith, a, a.1.before, c.after.ensures.later, l.invariant.1.sound.order) },
      λ v r m. l.invariant.2 v r
          (tail-goes _ l.left l.invariant.1 (sym c.precedence.ensures ∙ omega (arith, c.loop-operator-test.true, c.if-k-eq0.false)) c.after.ensures (omega (arith, c.requires, c.if-k-eq0.false)) c.level-in-loop-operator.ensures c.in_ok-right.was c.binary.ensures m),
    )

pub level-returns : goal.level-returns
level-returns t c =
    let l = c.loop-operator in
    l.invariant.2 _ _ (tail-ends _ l.left l.invariant.1 (λ e. c.loop-operator-test.false (c.precedence.ensures ∙ e ∙ omega (arith, c.if-k-eq0.false))))

pub postfix-returns-in_err-part : goal.postfix-returns-in_err-part
postfix-returns-in_err-part t c =
    parsed-exit c.from_residual.ensures.1 (postfix-bad _ c.primary.ensures c.in_err-part.was)

pub postfix-loop-pick-init : goal.postfix-loop-pick-init
postfix-loop-pick-init t c =
    ((ahead-tree c.primary.ensures c.in_ok-part.was).1, λ v r h. postfix-goes _ c.primary.ensures c.in_ok-part.was h)

pub postfix-returns-in_err-pick : goal.postfix-returns-in_err-pick
postfix-returns-in_err-pick t c =
    let l = c.loop-pick in
    parsed-exit c.from_residual-in_err-pick.ensures.1 (l.invariant.1 _ _ (picks-bad l.part l.invariant.0 (sym c.pick_at.ensures ∙ c.in_err-pick.was)))

pub postfix-loop-pick-smaller : goal.postfix-loop-pick-smaller
postfix-loop-pick-smaller t c =
    let k = pick-sound c.loop-pick.invariant.0.sound (found c.pick_at.ensures c.in_ok-pick.was c.in-Some.is) in
    omega (arith, k.1.order, k.1.inside)

pub postfix-loop-pick-preserved : goal.postfix-loop-pick-preserved
postfix-loop-pick-preserved t c =
    let l = c.loop-pick in
    let e = found c.pick_at.ensures c.in_ok-pick.was c.in-Some.is in
    let k = pick-sound l.invariant.0.sound e in
    (record { sound = k.1; before = k.0 }, λ v r h. l.invariant.1 v r (picks-goes l.part l.invariant.0 e c.pick.ensures h))

pub postfix-returns : goal.postfix-returns
postfix-returns t c =
    let l = c.loop-pick in
    l.invariant.1 _ _ (picks-none l.part l.invariant.0 (found c.pick_at.ensures c.in_ok-pick.was c.in_default.is))

pub primary-returns-then-is_literal : goal.primary-returns-then-is_literal
primary-returns-then-is_literal t c =
    primary-literal _ c.requires (sym c.is_literal.ensures ∙ c.if-is_literal.true) c.form.ensures c.literal.ensures c.after.ensures

pub primary-returns-then-x-eq-VARIABLE : goal.primary-returns-then-x-eq-VARIABLE
primary-returns-then-x-eq-VARIABLE t c =
    primary-variable _ c.requires c.if-x-eq-VARIABLE.true c.variable.ensures c.after-then-x-eq-VARIABLE.ensures

pub primary-returns-in_err-inside : goal.primary-returns-in_err-inside
primary-returns-in_err-inside t c =
    parsed-exit c.from_residual.ensures.1 (rw (← c.in_err-inside.was) (primary-brackets _ c.requires c.if-x-eq-OPEN_ROUND.true c.after-then-x-eq-OPEN_ROUND.ensures (closes-bad _ _ c.expression.ensures c.in_err-inside.was)))

pub primary-returns-then-x-eq-OPEN_ROUND : goal.primary-returns-then-x-eq-OPEN_ROUND
primary-returns-then-x-eq-OPEN_ROUND t c =
    primary-brackets _ c.requires c.if-x-eq-OPEN_ROUND.true c.after-then-x-eq-OPEN_ROUND.ensures (closes _ _ c.expression.ensures c.in_ok-inside.was c.closed.ensures)

pub primary-returns-then-x-eq-WORD : goal.primary-returns-then-x-eq-WORD
primary-returns-then-x-eq-WORD t c =
    primary-call _ c.requires c.if-x-eq-WORD.true c.call.ensures

pub primary-returns : goal.primary-returns
primary-returns t c =
    primary-none _ c.requires (sym c.is_literal.ensures ∙ c.if-is_literal.false) c.if-x-eq-VARIABLE.false c.if-x-eq-OPEN_ROUND.false c.if-x-eq-WORD.false

pub unary-returns-then-not-is_prefix : goal.unary-returns-then-not-is_prefix
unary-returns-then-not-is_prefix t c =
    unary-none _ (sym c.is_prefix.ensures ∙ c.if-not-is_prefix.true) c.postfix.ensures

pub unary-unary-requires : goal.unary-unary-requires
unary-unary-requires t c =
    let o = prefix-operator c.args.x (sym c.is_prefix.ensures ∙ c.if-not-is_prefix.false) in let m = c.requires.moves (omega (arith, o)) in (omega (arith, c.decreases, m, c.after.ensures.later, c.after.ensures.sound.order, c.after.ensures.sound.inside), c.after.ensures.sound)

pub unary-returns-in_err-part : goal.unary-returns-in_err-part
unary-returns-in_err-part t c =
    parsed-exit c.from_residual.ensures.1 (unary-bad _ (sym c.is_prefix.ensures ∙ c.if-not-is_prefix.false) c.requires c.after.ensures c.unary.ensures c.in_err-part.was)

pub unary-returns : goal.unary-returns
unary-returns t c =
    unary-goes _ (sym c.is_prefix.ensures ∙ c.if-not-is_prefix.false) c.requires c.after.ensures c.unary.ensures c.in_ok-part.was c.unary-2.ensures
