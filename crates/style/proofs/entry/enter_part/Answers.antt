use Rattle.text.specs.Slice.{put_back}
use Rattle.style.proofs.Law.Expressions.{field-accepted}
use Rattle.style.proofs.entry.enter_part.Goals as goal

pub returns : goal.returns
unfolding put_back
returns c =
    field-accepted c.args.purpose c.args.text c.args.before.now c.args.line.now c.args.slots.now c.requires.1 c.requires.2 c.enter.new.slots _ c.enter.ensures _ c.in_ok-entered.was
