use Rattle.output.proofs.Law.Lines.{front_fits, front-left-out}
use Rattle.output.proofs.line.to_front.Goals as goal

pub returns-then-out-line : goal.returns-then-out-line
returns-then-out-line c =
    front-left-out _ _ c.if-out-line.true

pub returns : goal.returns
returns c =
    rw (c.copy_from_slice.ensures.after) (front_fits _ _ c.if-out-line.false)
