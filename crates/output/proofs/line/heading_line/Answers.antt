use Rattle.output.specs.Line.{heading}
use Rattle.output.proofs.line.heading_line.Goals as goal

pub returns : goal.returns
unfolding heading
returns c = c.to_front.ensures
