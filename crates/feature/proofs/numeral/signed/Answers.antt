use Rattle.feature.specs.Field.{numeral_of}
use Rattle.feature.proofs.Law.Fields.{starts}
use Rattle.feature.proofs.numeral.signed.Goals as goal

pub returns-then-starts_with : goal.returns-then-starts_with
unfolding numeral_of
returns-then-starts_with c =
    rw (← starts 45 c.args.text.now, ← c.starts_with.ensures.value, c.if-starts_with.true, c.whole_number.ensures, c.read.ensures)

pub returns-else-starts_with : goal.returns-else-starts_with
unfolding numeral_of
returns-else-starts_with c =
    rw (← starts 45 c.args.text.now, ← c.starts_with.ensures.value, c.if-starts_with.false, c.whole_number-else-starts_with.ensures, c.read-else-starts_with.ensures)
