use mathlib.Core.Path.{sym, ◌∙◌}
use Rattle.lexer.proofs.Law.Forms.{other-string, other-variable, other_word, other-punctuator}
use Rattle.lexer.proofs.token.other_at.Goals as goal

pub returns-then-is_quote : goal.returns-then-is_quote
returns-then-is_quote c =
    c.string_at.ensures ∙ other-string c.args.text.now _ (sym c.is_quote.ensures ∙ c.if-is_quote.true)

pub returns-then-b-eq36 : goal.returns-then-b-eq36
returns-then-b-eq36 c =
    c.variable_at.ensures ∙ other-variable c.args.text.now _ (sym c.is_quote.ensures ∙ c.if-is_quote.false) c.if-b-eq36.true

pub returns-then-is_word_start : goal.returns-then-is_word_start
returns-then-is_word_start c =
    c.word_at.ensures ∙ other_word c.args.text.now _ c.requires (sym c.is_quote.ensures ∙ c.if-is_quote.false) c.if-b-eq36.false (sym c.is_word_start.ensures ∙ c.if-is_word_start.true)

pub returns-else-is_word_start : goal.returns-else-is_word_start
returns-else-is_word_start c =
    c.punctuator_at.ensures ∙ other-punctuator c.args.text.now _ c.requires (sym c.is_quote.ensures ∙ c.if-is_quote.false) c.if-b-eq36.false (sym c.is_word_start.ensures ∙ c.if-is_word_start.false)
