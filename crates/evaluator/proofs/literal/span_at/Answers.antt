use mathlib.Core.Path.{sym, ◌∙◌, subst}
use native.Mathlib.Omega.{arith}
use lib.ListN.{length}
use Rattle.lexer.proofs.Law.Ahead.{Ahead, ahead}
use Rattle.evaluator.proofs.literal.span_at.Goals as goal

-- A token ends behind its place, and within the text.
pub overflow_add-result : goal.overflow_add-result
overflow_add-result c =
    let e = sym c.token_at.ensures ∙ c.in-Found-String-default-default.is in
    let h = subst (λ x. Ahead c.args.at (length c.args.style.now) x) e (ahead c.args.style.now c.args.at) in
    omega (arith, h.goes, h.ends)

pub overflow_sub-result : goal.overflow_sub-result
overflow_sub-result c =
    let e = sym c.token_at.ensures ∙ c.in-Found-String-default-default.is in
    let h = subst (λ x. Ahead c.args.at (length c.args.style.now) x) e (ahead c.args.style.now c.args.at) in
    omega (arith, h.goes)
