-- The heading lies in the output.
use Rattle.output.proofs.Law.Pages.{next-inside}
use Rattle.std.proofs.Common.{arith}
use Rattle.ledger_cases.proofs.made.output.Goals as goal

pub refused-requires : goal.refused-requires
refused-requires c = next-inside _ _ _ c.text-heading.ensures (omega arith)

pub lines-requires : goal.lines-requires
lines-requires c = next-inside _ _ _ c.text-heading.ensures (omega arith)
