use Rattle.style.specs.Style.{admits}
use Rattle.style.proofs.item.admits.Goals as goal

pub returns-in-Prop : goal.returns-in-Prop
unfolding admits
returns-in-Prop c =
    rw (c.in-Prop.is, c.number_at-properties.ensures, c.number_at-defines.ensures, c.number_at-shows.ensures, c.number_at-colours.ensures, c.number_at-conditions.ensures)

pub returns-in-Define : goal.returns-in-Define
unfolding admits
returns-in-Define c =
    rw (c.in-Define.is, c.number_at-defines.ensures, c.number_at-shows.ensures, c.number_at-colours.ensures, c.number_at-conditions.ensures)

pub returns-in-Show : goal.returns-in-Show
unfolding admits
returns-in-Show c =
    rw (c.in-Show.is, c.number_at-shows.ensures)

pub returns-in-Color : goal.returns-in-Color
unfolding admits
returns-in-Color c =
    rw (c.in-Color.is, c.number_at-colours.ensures, c.number_at-conditions.ensures)

pub returns-in-Cond : goal.returns-in-Cond
unfolding admits
returns-in-Cond c =
    rw (c.in-Cond.is, c.number_at-colours.ensures, c.number_at-conditions.ensures)

pub returns-in-Feat : goal.returns-in-Feat
unfolding admits
returns-in-Feat c =
    rw c.in-Feat.is
