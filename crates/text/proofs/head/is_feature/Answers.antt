use mathlib.Core.Path.{sym, ◌∙◌, ap}
use lib.Seq.{length-take-le}
use Rattle.text.specs.Word.{is_feature_word}
use Rattle.text.proofs.Law.Heads.{first_field, first-inside}
use Rattle.text.proofs.head.is_feature.Goals as goal

pub slice_bounds-is_feature-end : goal.slice_bounds-is_feature-end
slice_bounds-is_feature-end c =
    let line = c.args.line.now in
    sym (length-take-le _ line (first-inside line _ c.end-end.ensures))

pub returns : goal.returns
returns c =
    c.is_feature.ensures ∙ ap is_feature_word (sym (first_field _ _ c.end-end.ensures))
