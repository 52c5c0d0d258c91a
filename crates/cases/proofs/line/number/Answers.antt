use Rattle.std.proofs.Common.{◌<◌, ◌≤◌, length, ◌∙◌, arith}
use lib.Seq.{slice}
use Rattle.cases.proofs.Law.Lines.{number_more, number_past}
use Rattle.cases.proofs.line.number.Goals as goal

pub loop-b-preserved : goal.loop-b-preserved
loop-b-preserved c =
    let h : c.loop-b.b-index < length (slice c.args.from c.args.to c.args.line.now) = rw c.part-b-items.ensures at c.loop-b-test.true in
    (omega arith, rw (c.push-value.ensures, c.part-b-items.ensures) (number_more _ _ _ h ∙ c.loop-b.invariant.1))

pub returns : goal.returns
returns c =
    let h : length (slice c.args.from c.args.to c.args.line.now) ≤ c.loop-b.b-index = rw c.part-b-items.ensures at c.loop-b-test.false in
    number_past _ _ _ c.loop-b.invariant.0 h ∙ c.loop-b.invariant.1
