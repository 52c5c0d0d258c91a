use Rattle.value.proofs.Law.Names.{index_below, index-past}
use Rattle.value.proofs.name.member_index.Goals as goal

pub returns-then-place-lt8 : goal.returns-then-place-lt8
returns-then-place-lt8 c = index_below _ _ c.number_in-place.ensures c.if-place-lt8.true

pub returns-else-place-lt8 : goal.returns-else-place-lt8
returns-else-place-lt8 c = index-past _ _ c.number_in-place.ensures c.if-place-lt8.false
