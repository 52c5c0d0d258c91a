use mathlib.Core.Path.{sym}
use lib.Seq.{length-take-le}
use Rattle.syntax.proofs.Law.Whole.{room-short, room-enough}
use Rattle.syntax.proofs.judge.judge.Goals as goal

pub returns-then-slots-n : goal.returns-then-slots-n
returns-then-slots-n c =
    room-short c.args.text.now _ c.if-slots-n.true

pub slice_bounds-own_judgement-end-2 : goal.slice_bounds-own_judgement-end-2
slice_bounds-own_judgement-end-2 c =
    sym (length-take-le _ _ c.if-slots-n.false)

pub own_judgement-requires : goal.own_judgement-requires
own_judgement-requires c =
    length-take-le _ _ c.if-slots-n.false

pub returns : goal.returns
returns c =
    room-enough _ _ c.if-slots-n.false c.own_judgement.ensures.0 c.own_judgement.ensures.1
