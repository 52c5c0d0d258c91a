use native.Mathlib.Omega.{arith}
use Rattle.lexer.specs.Token.{meaning}
use Rattle.lexer.proofs.Law.Spelling.{slice_is}
use Rattle.syntax.proofs.Law.Symbols.{sound-at}
use Rattle.syntax.proofs.Law.Names.{unknown-string}
use Rattle.syntax.proofs.names.colour_at.Goals as goal

pub overflow_add-x : goal.overflow_add-x
overflow_add-x c =
    omega (arith, rw (← c.symbol_at-x.ensures) at (sound-at c.args.text.now c.args.at))

pub returns-in_err-get : goal.returns-in_err-get
returns-in_err-get c =
    let x = c.symbol_at-x.result in
    let s = rw (← c.symbol_at-x.ensures) at (sound-at c.args.text.now c.args.at) in
    rw (← c.symbol_at-x.ensures, unknown-string c.args.text.now x.at x.end (omega (arith, c.in_err-get.ensures.lookup.0, c.saturating_sub.ensures, s.inside))) c.from_residual.ensures

pub returns : goal.returns
unfolding meaning
returns c =
    rw (← c.symbol_at-x.ensures, slice_is, ← c.saturating_sub.ensures, ← c.in_ok-get.ensures.lookup.0.2) c.from_text.ensures
