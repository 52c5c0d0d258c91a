-- What is written of the line lies in it.
use Rattle.output.proofs.Law.Lines.{front-inside}
use Rattle.std.proofs.Common.{sym, length-take-le}
use Rattle.ledger.proofs.print_refusal.Goals as goal

pub slice_bounds-line-end : goal.slice_bounds-line-end
slice_bounds-line-end c = front-inside _ _ c.refused_head-end.ensures

pub slice_bounds-text-end : goal.slice_bounds-text-end
slice_bounds-text-end c = sym (length-take-le _ _ (front-inside _ _ c.refused_head-end.ensures))
