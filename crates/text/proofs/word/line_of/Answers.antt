use mathlib.Core.Path.{sym, ◌∙◌}
use Rattle.std.proofs.Common.{rules}
use Rattle.text.specs.Word.{line_words, line_of}
use Rattle.text.proofs.Law.Words.{numbered}
use Rattle.text.proofs.word.line_of.Goals as goal

pub returns-then-is_feature : goal.returns-then-is_feature
unfolding line_of
returns-then-is_feature c =
    rw (sym c.is_feature.ensures ∙ c.if-is_feature.true)

pub returns : goal.returns
unfolding line_of
returns c =
    rw (sym c.is_feature.ensures ∙ c.if-is_feature.false, sym (numbered _ line_words c.args.word.now c.number_in-number.ensures)) (search rules)
