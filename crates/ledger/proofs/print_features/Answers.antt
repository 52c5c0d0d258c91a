-- The features' first bytes fit the block.
use Rattle.output.proofs.Law.Pages.{next-inside}
use Rattle.std.proofs.Common.{arith}
use Rattle.ledger.proofs.print_features.Goals as goal

pub print-requires : goal.print-requires
print-requires c = next-inside _ _ _ c.text-held.ensures (omega arith)
