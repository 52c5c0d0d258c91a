use Rattle.text.proofs.Law.Parts.{From}
use Rattle.text.proofs.part.nth.Given as goal

-- `nth` goes from part to part. The invariant: that the next begins here.
abbrev pub invariant-loop : goal.invariant-loop
invariant-loop l =
    From l.separator l.text l.counter l.start
