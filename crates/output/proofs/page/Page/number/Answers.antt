use Rattle.output.proofs.Law.Lines.{decimal-is}
use Rattle.output.proofs.page.Page.number.Goals as goal

pub returns : goal.returns
returns c =
    rw (c.as_bytes.ensures.value, c.format.ensures.text, decimal-is c.args.n c.ranges.n.fits) at c.text.ensures
