use Rattle.painter.proofs.Law.Calls.{printed}
use Rattle.painter.proofs.print.line.Goals as goal

pub returns-in-Err : goal.returns-in-Err
returns-in-Err g c =
    let held = printed g.R.Refused.printed_number g.R.Refused.printed_place _ _ _ _ c.in-Err.is _ _ (rw (c.number.ensures, c.place.ensures) at c.refused_feature.ensures) in
    record { is = held.0; inside = held.1 }

pub returns-in-Ok : goal.returns-in-Ok
returns-in-Ok g c =
    let held = printed g.R.Refused.printed_number g.R.Refused.printed_place _ _ _ _ c.in-Ok.is _ _ c.painted.ensures in
    record { is = held.0; inside = held.1 }
