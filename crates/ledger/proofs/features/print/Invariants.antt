-- What is kept of a block fits it.
use Rattle.std.proofs.Common.{length, ◌≤◌}
use Rattle.ledger.proofs.features.print.Given as goal

abbrev pub invariant-loop-block : goal.invariant-loop-block
invariant-loop-block l = l.kept ≤ length l.block
