use Rattle.lexer.proofs.Law.Texts.{part_cut}
use Rattle.output.proofs.page.Page.part.Goals as goal

pub returns : goal.returns
returns c =
    rw (c.min.ensures, c.min-end.ensures, part_cut c.args.from c.args.to c.args.text.now) at c.text.ensures
