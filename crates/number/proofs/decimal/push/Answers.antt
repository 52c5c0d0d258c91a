use Rattle.number.proofs.Law.Reading.{pushed_more, pushed-other, pushed-full}
use Rattle.number.proofs.decimal.push.Goals as goal
use Rattle.number.proofs.decimal.push.Goals.{else-value-lt-ROOM_FOR_DIGIT-via-then-value-lt-ROOM_FOR_DIGIT+else-b-ge48, else-value-lt-ROOM_FOR_DIGIT-via-else-value-lt-ROOM_FOR_DIGIT}

pub returns-then-b-ge48 : goal.returns-then-b-ge48
returns-then-b-ge48 c = rw c.from.ensures (pushed_more _ _ c.if-value-lt-ROOM_FOR_DIGIT.true c.if-b-ge48.true)

pub returns-else-value-lt-ROOM_FOR_DIGIT : goal.returns-else-value-lt-ROOM_FOR_DIGIT
returns-else-value-lt-ROOM_FOR_DIGIT c =
    elim c.else-value-lt-ROOM_FOR_DIGIT.branch [
      | else-value-lt-ROOM_FOR_DIGIT-via-then-value-lt-ROOM_FOR_DIGIT+else-b-ge48 w ↦ pushed-other _ _ w.if-value-lt-ROOM_FOR_DIGIT.true w.if-b-ge48.false
      | else-value-lt-ROOM_FOR_DIGIT-via-else-value-lt-ROOM_FOR_DIGIT w ↦ pushed-full _ _ w.if-value-lt-ROOM_FOR_DIGIT.false
    ]
