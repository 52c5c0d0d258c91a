use Rattle.lexer.proofs.Law.Texts.{pointwise-same}
use Rattle.text.specs.Word.{feature_word}
use Rattle.text.proofs.word.is_feature.Goals as goal

pub returns : goal.returns
returns c =
    rw (c.eq.ensures, c.as_slice.ensures) (pointwise-same c.args.word.now feature_word)
