use mathlib.Core.Path.{sym, ◌∙◌, ap}
use mathlib.Core.List.{List}
use Prim.Native.Nat.{ℕ}
use Rattle.std.specs.Prelude.{Result}
use Rattle.std.proofs.lemmas.Result.{err_from_is_err_and}
use Rattle.lexer.specs.Refusal.{Judged}
use Rattle.lexer.specs.Tokens.{tokens_from}
use Rattle.lexer.specs.declared.refusal.Refusal.{Refusal}
use native.Mathlib.Omega.{arith}
use Rattle.lexer.proofs.Law.Scanning.{rest_verdict, scan-found, scan-over, scan-bad, scan-fine, scan-refused, scan-all, scan-on}
use Rattle.lexer.proofs.scan.scan.Goals as goal

pub loop-token-init : goal.loop-token-init
loop-token-init c = scan-all _

pub loop-token-smaller-in-Ok : goal.loop-token-smaller-in-Ok
loop-token-smaller-in-Ok c =
    let h = scan-on c.args.text.now c.loop-token.from _ _ _ _ c.token_at.ensures c.in-Found.is in omega arith

pub loop-token-smaller : goal.loop-token-smaller
loop-token-smaller c =
    let h = scan-on c.args.text.now c.loop-token.from _ _ _ _ c.token_at.ensures c.in-Found.is in omega arith

-- the invariant, of what is known to be open
abbrev known : List ℕ → ℕ → Result ℕ Refusal → Judged (Unit {0})
known text from seen = rest_verdict seen (tokens_from text from)

pub loop-token-preserved-in-Ok : goal.loop-token-preserved-in-Ok
loop-token-preserved-in-Ok c =
    scan-found c.args.text.now c.loop-token.from c.in-Ok.count _ _ _ _ _ c.token_at.ensures c.in-Found.is c.next_open-open.ensures
    ∙ ap (known c.args.text.now c.loop-token.from) (sym c.in-Ok.is)
    ∙ c.loop-token.invariant

pub loop-token-preserved : goal.loop-token-preserved
loop-token-preserved c =
    ap (known c.args.text.now c.in-Found.end) c.in_default.is
    ∙ scan-over c.args.text.now c.loop-token.from _ _ _ _ _ c.token_at.ensures c.in-Found.is
    ∙ ap (known c.args.text.now c.loop-token.from) (sym c.in_default.is)
    ∙ c.loop-token.invariant

pub returns-in-Bad : goal.returns-in-Bad
returns-in-Bad c = scan-bad c.args.text.now c.loop-token.from c.loop-token.open _ _ _ c.token_at.ensures c.in-Bad.is ∙ c.loop-token.invariant

pub returns-in_err-open-in-End : goal.returns-in_err-open-in-End
returns-in_err-open-in-End c =
    let p = err_from_is_err_and c.from_residual.result c.from_residual.ensures.1 in
    rw (p.1, p.2)
    (scan-refused c.args.text.now c.loop-token.from _ _ c.token_at.ensures c.in-End.is
    ∙ ap (known c.args.text.now c.loop-token.from) (sym c.in_err-open-in-End.was)
    ∙ c.loop-token.invariant)

pub returns-in-End : goal.returns-in-End
returns-in-End c =
    scan-fine c.args.text.now c.loop-token.from _ _ c.token_at.ensures c.in-End.is
    ∙ ap (known c.args.text.now c.loop-token.from) (sym c.in_ok-open-in-End.was)
    ∙ c.loop-token.invariant
