use Rattle.output.proofs.Law.Lines.{hex-small, hex-large}
use Rattle.output.proofs.line.hex_digit.Goals as goal

pub returns-then-d-lt10 : goal.returns-then-d-lt10
returns-then-d-lt10 c =
    hex-small _ c.if-d-lt10.true

pub returns-else-d-lt10 : goal.returns-else-d-lt10
returns-else-d-lt10 c =
    hex-large _ c.if-d-lt10.false
