use mathlib.Core.Path.{sym, ◌∙◌}
use Rattle.lexer.proofs.Law.Forms.{lexeme-end, lexeme-some}
use Rattle.lexer.proofs.token.token_at.Goals as goal

pub returns-then-text-at : goal.returns-then-text-at
returns-then-text-at c =
    lexeme-end c.args.text.now _ _ c.run_end-at.ensures c.if-text-at.true

pub returns-in-Number : goal.returns-in-Number
returns-in-Number c =
    lexeme-some c.args.text.now _ _ c.run_end-at.ensures _ c.if-text-at.false (sym c.in-Number.is ∙ c.read.ensures)

pub returns-in-TooLong : goal.returns-in-TooLong
returns-in-TooLong c =
    lexeme-some c.args.text.now _ _ c.run_end-at.ensures _ c.if-text-at.false (sym c.in-TooLong.is ∙ c.read.ensures)

pub returns-in-Nothing : goal.returns-in-Nothing
returns-in-Nothing c =
    c.other_at.ensures ∙ lexeme-some c.args.text.now _ _ c.run_end-at.ensures _ c.if-text-at.false (sym c.in-Nothing.is ∙ c.read.ensures)
