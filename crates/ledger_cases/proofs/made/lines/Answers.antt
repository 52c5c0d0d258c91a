-- A line ends inside the features.
use Rattle.std.proofs.Common.{arith}
use Rattle.text.proofs.Law.Parts.{end-within}
use Rattle.ledger_cases.proofs.made.lines.Goals as goal

pub slice_bounds-line-end : goal.slice_bounds-line-end
slice_bounds-line-end c = rw c.end-stop.ensures (end-within _ _ _ (omega arith))
