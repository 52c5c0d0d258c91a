use Rattle.std.proofs.Common.{sym, ◌∙◌}
use Rattle.number.proofs.Law.Arithmetic.{some_nan, other-nan, no_nan}
use Rattle.number.specs.Arithmetic.{max_of}
use Rattle.number.proofs.arithmetic.max.Goals as goal
use Rattle.number.proofs.arithmetic.max.Goals.{then-is_nan-2, else-is_nan-2}

pub returns-then-is_nan : goal.returns-then-is_nan
unfolding max_of
returns-then-is_nan c = some_nan c.args.x c.args.y _ (sym c.is_nan.ensures.value ∙ c.if-is_nan.true)

pub returns-then-is_less : goal.returns-then-is_less
unfolding max_of
returns-then-is_less c =
    elim c.if-is_nan-2.branch [
      | then-is_nan-2 w ↦ other-nan c.args.x c.args.y _ (sym c.is_nan-else-is_nan.ensures.value ∙ w.if-is_nan-2.true)
      | else-is_nan-2 w ↦
          rw (sym w.is_less.ensures ∙ (sym w.value-is ∙ c.if-is_less.true))
          (no_nan c.args.x c.args.y _ (sym c.is_nan.ensures.value ∙ c.if-is_nan.false) (sym c.is_nan-else-is_nan.ensures.value ∙ w.if-is_nan-2.false))
    ]

pub returns-else-is_less : goal.returns-else-is_less
unfolding max_of
returns-else-is_less c =
    elim c.if-is_nan-2.branch [
      | then-is_nan-2 w ↦ absurd (cc)
      | else-is_nan-2 w ↦
          rw (sym w.is_less.ensures ∙ (sym w.value-is ∙ c.if-is_less.false))
          (no_nan c.args.x c.args.y _ (sym c.is_nan.ensures.value ∙ c.if-is_nan.false) (sym c.is_nan-else-is_nan.ensures.value ∙ w.if-is_nan-2.false))
    ]
