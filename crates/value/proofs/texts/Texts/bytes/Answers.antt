use Rattle.lexer.specs.Token.{meaning}
use Rattle.lexer.proofs.Law.Texts.{part_cut}
use Rattle.value.specs.Value.{text_in}
use Rattle.value.proofs.texts.Texts.bytes.Goals as goal
use Rattle.value.proofs.texts.Texts.bytes.Goals.{then-span, else-span}

pub returns : goal.returns
unfolding text_in meaning
returns c =
    let s = c.args.span in
    rw (c.min-start.ensures, c.min-end.ensures, part_cut s.start s.end c.if-span.text.now)
    (elim c.if-span.branch [ then-span w ↦ rw (w.if-span.true, w.text-is) | else-span w ↦ rw (w.if-span.false, w.text-is) ])
