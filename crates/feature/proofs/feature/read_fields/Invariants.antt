use Rattle.feature.proofs.Law.Lines.{Sofar}
use Rattle.feature.proofs.feature.read_fields.Given as goal

-- `read_fields` goes from field to field. The invariant: what is left gives the whole.
abbrev pub invariant-loop-i : goal.invariant-loop-i
invariant-loop-i l =
    Sofar l.plan l.properties l.line l.initial.values l.values l.at l.i
