use Rattle.number.specs.Decimal.{value_of}
use Rattle.number.proofs.decimal.value.Goals as goal

pub returns-then-negative : goal.returns-then-negative
unfolding value_of
returns-then-negative c = rw (c.ten_to.ensures, c.nearest_u64_to_f64.ensures, c.if-negative.true)

pub returns-else-negative : goal.returns-else-negative
unfolding value_of
returns-else-negative c = rw (c.ten_to.ensures, c.nearest_u64_to_f64.ensures, c.if-negative.false)
