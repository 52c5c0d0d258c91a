use mathlib.Core.Path.{sym}
use Rattle.std.proofs.Common.{rules}
use Rattle.text.specs.Word.{type_words, type_of}
use Rattle.text.proofs.Law.Words.{numbered}
use Rattle.text.proofs.word.type_of.Goals as goal

pub returns : goal.returns
unfolding type_of
returns c =
    rw (sym (numbered _ type_words c.args.word.now c.number_in-number.ensures)) (search rules)
