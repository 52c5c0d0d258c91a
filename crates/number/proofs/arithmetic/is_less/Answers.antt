use Rattle.std.proofs.Common.{sym, ◌∙◌}
use Rattle.number.specs.Arithmetic.{less}
use Rattle.number.proofs.arithmetic.is_less.Goals as goal
use Rattle.number.proofs.arithmetic.is_less.Goals.{then-x-y-2, else-x-y-2}

pub returns-then-x-y : goal.returns-then-x-y
unfolding less
returns-then-x-y c = rw (c.if-x-y.true)

pub returns-then-is_negative_zero : goal.returns-then-is_negative_zero
unfolding less
returns-then-is_negative_zero c =
    elim c.if-x-y-2.branch [
      | then-x-y-2 w ↦
          rw (c.is_negative_zero-then-is_negative_zero.ensures, c.if-x-y.false, w.if-x-y-2.true, sym w.is_negative_zero.ensures ∙ (sym w.value-is ∙ c.if-is_negative_zero.true))
      | else-x-y-2 w ↦ absurd (cc)
    ]

pub returns-else-is_negative_zero : goal.returns-else-is_negative_zero
unfolding less
returns-else-is_negative_zero c =
    elim c.if-x-y-2.branch [
      | then-x-y-2 w ↦
          rw (c.if-is_negative_zero.false, c.if-x-y.false, w.if-x-y-2.true, sym w.is_negative_zero.ensures ∙ (sym w.value-is ∙ c.if-is_negative_zero.false))
      | else-x-y-2 w ↦ rw (c.if-is_negative_zero.false, c.if-x-y.false, w.if-x-y-2.false)
    ]
