use native.Mathlib.Omega.{arith}
use Rattle.blocks.proofs.Law.Left.{left-whole, left-some}
use Rattle.blocks.proofs.features.left_from.Goals as goal

pub returns-then-end-size : goal.returns-then-end-size
returns-then-end-size c =
    left-whole _ _ _ c.if-end-size.true

pub returns-else-end-size : goal.returns-else-end-size
returns-else-end-size c =
    omega (arith, c.min.ensures, c.saturating_sub.ensures, left-some c.args.at c.args.end c.args.size c.if-end-size.false)
