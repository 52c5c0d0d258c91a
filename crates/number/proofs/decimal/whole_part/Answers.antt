use Rattle.std.proofs.Common.{sym, ap, ◌∙◌}
use Rattle.number.specs.Inner.{gathered}
use Rattle.number.proofs.Law.Reading.{whole-nought, whole-digits}
use Rattle.number.proofs.decimal.whole_part.Goals as goal

pub returns-then-starts_with : goal.returns-then-starts_with
returns-then-starts_with c = whole-nought c.args.text.now (sym c.starts_with.ensures.value ∙ c.if-starts_with.true)

pub returns-else-starts_with : goal.returns-else-starts_with
returns-else-starts_with c = c.leading_digits.ensures ∙ ap (gathered 0) (whole-digits c.args.text.now (sym c.starts_with.ensures.value ∙ c.if-starts_with.false))
