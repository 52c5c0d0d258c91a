use mathlib.Core.Path.{sym, ◌∙◌}
use native.Mathlib.Omega.{arith}
use Rattle.lexer.proofs.Law.Runs.{byte-within}
use Rattle.lexer.proofs.Law.Forms.{string-closed, string-open}
use Rattle.lexer.proofs.token.string_at.Goals as goal

pub overflow_add-result : goal.overflow_add-result
overflow_add-result c =
    let h = byte-within c.args.text.now c.run_end-end.result c.args.quote (sym c.has_byte.ensures ∙ c.if-has_byte.true) in omega arith

pub returns-then-has_byte : goal.returns-then-has_byte
returns-then-has_byte c =
    string-closed c.args.text.now _ _ _ c.run_end-end.ensures (sym c.has_byte.ensures ∙ c.if-has_byte.true)

pub returns-else-has_byte : goal.returns-else-has_byte
returns-else-has_byte c =
    string-open c.args.text.now _ _ _ c.run_end-end.ensures (sym c.has_byte.ensures ∙ c.if-has_byte.false)
