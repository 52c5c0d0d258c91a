use Rattle.cases.proofs.Law.Lines.{digit-decimal, digit-letter, digit-below, digit-between, digit-above}
use Rattle.cases.proofs.line.digit.Goals as goal

pub returns-in-48-to-57 : goal.returns-in-48-to-57
returns-in-48-to-57 c = rw c.from.ensures (digit-decimal _ c.in-48-to-57.if-b-lt48-own.false c.in-48-to-57.if-b-lt58-own.true)

pub returns-in-97-to-102 : goal.returns-in-97-to-102
returns-in-97-to-102 c = rw c.from-in-97-to-102.ensures (digit-letter _ c.in-97-to-102.if-b-lt97-own.false c.in-97-to-102.if-b-lt103-own.true)

pub returns-in_default : goal.returns-in_default
returns-in_default c = digit-below _ c.in_default.if-b-lt48-own.true

pub returns-in_default-2 : goal.returns-in_default-2
returns-in_default-2 c = digit-between _ c.in_default.if-b-lt58-own.false c.in_default.if-b-lt97-own.true

pub returns-in_default-3 : goal.returns-in_default-3
returns-in_default-3 c = digit-above _ c.in_default.if-b-lt103-own.false
