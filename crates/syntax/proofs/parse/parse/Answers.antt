use Rattle.syntax.proofs.Law.Symbols.{sound-as}
use Rattle.syntax.proofs.Law.Parts.{whole-exit}
use Rattle.syntax.proofs.Law.Whole.{whole-bad, whole-more, whole-goes}
use Rattle.syntax.proofs.parse.parse.Goals as goal

pub expression-requires : goal.expression-requires
expression-requires c =
    sound-as 0 c.symbol_at.ensures

pub returns-in_err-whole : goal.returns-in_err-whole
returns-in_err-whole c =
    whole-exit c.from_residual.ensures.1 (whole-bad c.symbol_at.ensures c.expression.ensures c.in_err-whole.was)

pub returns-then-whole-ne-END : goal.returns-then-whole-ne-END
returns-then-whole-ne-END c =
    whole-more c.symbol_at.ensures c.expression.ensures c.in_ok-whole.was c.if-whole-ne-END.true

pub returns : goal.returns
returns c =
    whole-goes c.symbol_at.ensures c.expression.ensures c.in_ok-whole.was c.if-whole-ne-END.false
