use Rattle.style.proofs.Law.Calls.{too_small, too_long, lines_bad, lines_good}
use Rattle.style.proofs.head.compile.Goals as goal

pub returns-then-room-lt-ROOM_SIZE : goal.returns-then-room-lt-ROOM_SIZE
returns-then-room-lt-ROOM_SIZE c =
    let w = too_small c.args.room.now c.args.head.now c.args.plan.now c.unread.result c.if-room-lt-ROOM_SIZE.true c.unread.ensures in record { answer = w.0; plan = w.1.0; room = w.1.1 }

pub returns-then-head-gt-MOST_BYTES : goal.returns-then-head-gt-MOST_BYTES
returns-then-head-gt-MOST_BYTES c =
    let w = too_long c.args.room.now c.args.head.now c.args.plan.now c.unread-then-head-gt-MOST_BYTES.result _ c.if-room-lt-ROOM_SIZE.false c.if-head-gt-MOST_BYTES.true c.unread-then-head-gt-MOST_BYTES.ensures c.clear.ensures in
    record { answer = w.0; plan = w.1.0; room = w.1.1 }

pub returns-in-Err : goal.returns-in-Err
returns-in-Err c =
    let w = lines_bad c.args.room.now c.args.head.now c.if-room-lt-ROOM_SIZE.false c.if-head-gt-MOST_BYTES.false c.args.plan.now c.read_lines.new.plan c.read_lines.new.room _ c.read_lines.auto.room c.read_lines.ensures _ c.in-Err.is _ c.clear-in-Err.ensures in record { answer = w.0; plan = w.1.0; room = w.1.1 }

pub returns : goal.returns
returns c =
    let w = lines_good c.args.room.now c.args.head.now c.if-room-lt-ROOM_SIZE.false c.if-head-gt-MOST_BYTES.false c.args.plan.now c.read_lines.new.plan c.read_lines.new.room _ c.read_lines.auto.room c.read_lines.ensures c.in_default.is in record { answer = w.0; plan = w.1.0; room = w.1.1 }
