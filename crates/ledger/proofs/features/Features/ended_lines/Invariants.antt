-- It goes from line to line: what is left of the block falls.
use Rattle.std.proofs.Common.{length, ◌≤◌}
use Rattle.ledger.proofs.features.Features.ended_lines.Given as goal

abbrev pub invariant-loop-self : goal.invariant-loop-self
invariant-loop-self l = length l.rest ≤ length l.begun

abbrev pub decreases-loop-self : goal.decreases-loop-self
decreases-loop-self l = length l.rest
