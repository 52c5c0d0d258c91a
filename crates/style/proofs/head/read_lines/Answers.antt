use mathlib.Core.Path.{refl, ◌∙◌}
use native.Mathlib.Omega.{arith}
use Rattle.text.proofs.Law.Parts.{end-within}
use Rattle.text.specs.Slice.{put_back}
use Rattle.style.proofs.Law.Loop.{at_first, turn-refused, turn_on, turn-fits, same-room, lines-refused, lines_end}
use Rattle.style.proofs.head.read_lines.Goals as goal

pub loop-at-init : goal.loop-at-init
loop-at-init c =
    (at_first _ _ _ c.requires.2 c.requires.1, refl)

pub slice_bounds-read-end : goal.slice_bounds-read-end
slice_bounds-read-end c =
    omega (arith, c.end-end.ensures, end-within 10 c.args.head.now c.loop-at.at (omega (arith, c.loop-at-test.true)))

pub with_entry-requires : goal.with_entry-requires
with_entry-requires c =
    turn-fits _ _ _ _ _ _ _ c.loop-at.invariant.0 c.requires.0 c.loop-at-test.true _ c.end-end.ensures c.read.new.slots c.read.auto.slots _ c.in-Ok.ensures

pub returns-in-Err : goal.returns-in-Err
returns-in-Err c =
    lines-refused _ _ _ _ _ _ (turn-refused _ _ _ _ _ _ _ c.loop-at.invariant.0 c.requires.0 c.loop-at-test.true _ c.end-end.ensures _ c.in-Err.ensures)

pub loop-at-preserved : goal.loop-at-preserved
unfolding put_back
loop-at-preserved c = (
  turn_on _ _ _ _ _ _ _ c.loop-at.invariant.0 c.requires.0 c.loop-at-test.true _ c.end-end.ensures c.read.new.slots c.read.auto.slots _ c.in-Ok.ensures _ _ c.with_entry.ensures.0 c.with_entry.ensures.1,
  same-room _ _ _ _ _ _ _ c.loop-at.invariant.0 c.requires.0 c.loop-at-test.true _ c.end-end.ensures c.read.new.slots c.read.auto.slots ∙ c.loop-at.invariant.1,
)

pub returns : goal.returns
returns c =
    lines_end _ _ _ _ _ _ _ c.loop-at.invariant.0 c.loop-at-test.false
