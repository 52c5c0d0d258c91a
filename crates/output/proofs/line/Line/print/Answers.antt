use mathlib.Core.Path.{◌∙◌, ap}
use Rattle.output.specs.Line.{front}
use Rattle.output.proofs.Sizes.{line-page}
use Rattle.output.proofs.Law.Pages.{read_back, end-inside, end_read}
use Rattle.output.proofs.line.Line.print.Goals as goal

pub slice_bounds-room-end : goal.slice_bounds-room-end
slice_bounds-room-end c =
    end-inside _ _ (line-page _) c.end-end.ensures

pub slice_bounds-to_front-end : goal.slice_bounds-to_front-end
slice_bounds-to_front-end c =
    end_read _ _ (line-page _) c.end-end.ensures

pub returns : goal.returns
returns c =
    c.to_front.ensures ∙ ap (front _) (read_back _ _ (line-page _) c.end-end.ensures)
