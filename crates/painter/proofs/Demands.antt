-- The three demands (docs/PROMISES.md), as specs/Demand.antt says them.
use mathlib.Core.Path.{ap}
use Rattle.style.specs.Answer.{Answer}
use Rattle.painter.specs.Paint.{out_after}
use Rattle.painter.specs.Demand.{Answered, RefusedByTable, BufferKept, PaintAgrees, FourPlaced, SevenPlaced}
use Rattle.painter.specs.Demand.{PaintedAsMeant, NoColour, PaintedOnly, NothingFails, RefusedExactly}
use Rattle.painter.specs.Demand.{GivenAsMeant, AppliedAsPainted, PrintedAsPainted, by-head}
use Rattle.painter.proofs.Order as order
use Rattle.painter.proofs.Order.{check-refused, paint-refused, conforming, reading-painted}
use Rattle.painter.proofs.NoColour.{reading-coloured}
use Rattle.painter.proofs.Sound.{reading-sound}
use Rattle.painter.proofs.Placed as placed
use Rattle.painter.proofs.Printed.{printed-compiled}
use Rattle.painter.proofs.Law.Calls.{compiled-given, compiled-applies}
use Rattle.painter.specs.declared.answer.Painted.{Painted}

-- ---- 1: a call is refused exactly when the table says so

pub answered : Answered
answered = order.answered

pub refused-by-table : RefusedByTable
refused-by-table = (check-refused, paint-refused)

pub buffer-kept : BufferKept
buffer-kept slots head number feature out n r e = ap (λ (a : Answer Painted). out_after a number out) e

pub paint-agrees : PaintAgrees
paint-agrees bytes slots head number feature n r enough e =
    (paint-refused bytes slots head number feature n r).1 (by-head enough ((check-refused slots head n r).0 e))

pub four-placed : FourPlaced
four-placed = placed.four-placed

pub seven-placed : SevenPlaced
seven-placed = placed.seven-placed

-- ---- 2: exactly the show and colour that the written meaning gives

pub painted-as-meant : PaintedAsMeant
painted-as-meant = conforming _ reading-painted

pub no-colour : NoColour
no-colour = conforming _ reading-coloured

pub painted-only : PaintedOnly
painted-only bytes slots head number feature w e =
    order.read-conforms slots head number feature (order.paint-accepted bytes slots head number feature w e)

-- ---- 3: nothing fails, and what is refused for its kinds

pub nothing-fails : NothingFails
nothing-fails = conforming _ reading-sound

pub refused-for-kinds : RefusedExactly
refused-for-kinds = placed.refused-for-kinds

-- ---- the program: `compile` once, and then `given` or `apply` for each strip

pub given-as-meant : GivenAsMeant
given-as-meant = compiled-given

pub applied-as-painted : AppliedAsPainted
applied-as-painted = compiled-applies

pub printed-as-painted : PrintedAsPainted
printed-as-painted = printed-compiled
