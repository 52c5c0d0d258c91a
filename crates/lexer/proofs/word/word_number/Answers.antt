use Rattle.lexer.proofs.Law.Texts.{told}
use Rattle.lexer.proofs.word.word_number.Goals as goal

pub returns-then-eq : goal.returns-then-eq
returns-then-eq c = rw (told c.args.word.now c.eq.ensures c.as_slice.ensures c.if-eq.true)

pub returns-then-eq-2 : goal.returns-then-eq-2
returns-then-eq-2 c = rw (told c.args.word.now c.eq.ensures c.as_slice.ensures c.if-eq.false, told c.args.word.now c.eq-else-eq.ensures c.as_slice-else-eq.ensures c.if-eq-2.true)

pub returns-then-eq-3 : goal.returns-then-eq-3
returns-then-eq-3 c = rw (told c.args.word.now c.eq.ensures c.as_slice.ensures c.if-eq.false, told c.args.word.now c.eq-else-eq.ensures c.as_slice-else-eq.ensures c.if-eq-2.false, told c.args.word.now c.eq-else-eq-2.ensures c.as_slice-else-eq-2.ensures c.if-eq-3.true)

pub returns-then-eq-4 : goal.returns-then-eq-4
returns-then-eq-4 c = rw (told c.args.word.now c.eq.ensures c.as_slice.ensures c.if-eq.false, told c.args.word.now c.eq-else-eq.ensures c.as_slice-else-eq.ensures c.if-eq-2.false, told c.args.word.now c.eq-else-eq-2.ensures c.as_slice-else-eq-2.ensures c.if-eq-3.false, told c.args.word.now c.eq-else-eq-3.ensures c.as_slice-else-eq-3.ensures c.if-eq-4.true)

pub returns-then-eq-5 : goal.returns-then-eq-5
returns-then-eq-5 c = rw (told c.args.word.now c.eq.ensures c.as_slice.ensures c.if-eq.false, told c.args.word.now c.eq-else-eq.ensures c.as_slice-else-eq.ensures c.if-eq-2.false, told c.args.word.now c.eq-else-eq-2.ensures c.as_slice-else-eq-2.ensures c.if-eq-3.false, told c.args.word.now c.eq-else-eq-3.ensures c.as_slice-else-eq-3.ensures c.if-eq-4.false, told c.args.word.now c.eq-else-eq-4.ensures c.as_slice-else-eq-4.ensures c.if-eq-5.true)

pub returns-then-eq-6 : goal.returns-then-eq-6
returns-then-eq-6 c = rw (told c.args.word.now c.eq.ensures c.as_slice.ensures c.if-eq.false, told c.args.word.now c.eq-else-eq.ensures c.as_slice-else-eq.ensures c.if-eq-2.false, told c.args.word.now c.eq-else-eq-2.ensures c.as_slice-else-eq-2.ensures c.if-eq-3.false, told c.args.word.now c.eq-else-eq-3.ensures c.as_slice-else-eq-3.ensures c.if-eq-4.false, told c.args.word.now c.eq-else-eq-4.ensures c.as_slice-else-eq-4.ensures c.if-eq-5.false, told c.args.word.now c.eq-else-eq-5.ensures c.as_slice-else-eq-5.ensures c.if-eq-6.true)

pub returns-else-eq-6 : goal.returns-else-eq-6
returns-else-eq-6 c = rw (told c.args.word.now c.eq.ensures c.as_slice.ensures c.if-eq.false, told c.args.word.now c.eq-else-eq.ensures c.as_slice-else-eq.ensures c.if-eq-2.false, told c.args.word.now c.eq-else-eq-2.ensures c.as_slice-else-eq-2.ensures c.if-eq-3.false, told c.args.word.now c.eq-else-eq-3.ensures c.as_slice-else-eq-3.ensures c.if-eq-4.false, told c.args.word.now c.eq-else-eq-4.ensures c.as_slice-else-eq-4.ensures c.if-eq-5.false, told c.args.word.now c.eq-else-eq-5.ensures c.as_slice-else-eq-5.ensures c.if-eq-6.false)
