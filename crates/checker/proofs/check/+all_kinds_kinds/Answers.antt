use Rattle.std.specs.Prelude.{None}
use mathlib.Core.Path.{sym, ◌∙◌}
use Rattle.std.proofs.lemmas.Result.{err_from_is_err_and}
use Rattle.kind.specs.Set.{set_of, single_of}
use Rattle.tree.specs.Node.{tree_at}
use Rattle.checker.specs.Kinds.{kinds_of}
use Prim.Native.Nat.{◌+◌, ◌-◌}
use native.Mathlib.Omega.{arith}
use mathlib.Core.Path.{◌≡◌}
use mathlib.Core.Logic.{◌⊎◌, inl, inr}
use Rattle.tree.specs.Node.{most_commas, argument_at}
use Rattle.checker.proofs.Law.Checks.{node-all, kinds-step, next-refused, next-added, last-refused, last-added}
use Rattle.checker.proofs.check.+all_kinds_kinds.Goals as goal
use Rattle.checker.proofs.check.+all_kinds_kinds.Goals.{all_kinds-else-loop-comma-test, all_kinds-then-loop-comma-test+in_default}

pub all_kinds-returns-in_err-kinds : goal.all_kinds-returns-in_err-kinds
all_kinds-returns-in_err-kinds t c =
    let p = err_from_is_err_and c.from_residual.result c.from_residual.ensures.1 in
    let some : (most_commas - c.loop-comma.comma ≡ 0) → ⊥ = λ e. omega arith in
    rw (p.1, p.2)
    (next-refused _ _ _ _ _ _ _ _ some (sym c.in-Some.is ∙ c.argument_at.ensures) _ (sym c.kinds.ensures ∙ c.in_err-kinds.was) ∙ c.loop-comma.invariant)

pub all_kinds-loop-comma-preserved : goal.all_kinds-loop-comma-preserved
all_kinds-loop-comma-preserved t c =
    let some : (most_commas - c.loop-comma.comma ≡ 0) → ⊥ = λ e. omega arith in
    let fewer : most_commas - (c.loop-comma.comma + 1) ≡ most_commas - c.loop-comma.comma - 1 = omega arith in
    next-added _ _ _ _ _ _ _ _ some (sym c.in-Some.is ∙ c.argument_at.ensures) _ (sym c.kinds.ensures ∙ c.in_ok-kinds.was) _ c.add.ensures _ fewer
    ∙ c.loop-comma.invariant

pub all_kinds-returns-in_err-kinds-2 : goal.all_kinds-returns-in_err-kinds-2
all_kinds-returns-in_err-kinds-2 t c =
    let p = err_from_is_err_and c.from_residual-in_err-kinds-2.result c.from_residual-in_err-kinds-2.ensures.1 in
    let last : (most_commas - c.loop-comma.comma ≡ 0) ⊎ (None ≡ argument_at c.args.slots.now c.loop-comma.at) =
    elim c.loop-comma-test.branch [
      | all_kinds-else-loop-comma-test w ↦ inl (omega arith)
      | all_kinds-then-loop-comma-test+in_default w ↦ inr (sym w.in_default.is ∙ w.argument_at.ensures)
    ] in
    rw (p.1, p.2) (last-refused _ _ _ _ _ _ last _ (sym c.kinds-2.ensures ∙ c.in_err-kinds-2.was) ∙ c.loop-comma.invariant)

pub all_kinds-returns : goal.all_kinds-returns
all_kinds-returns t c =
    let last : (most_commas - c.loop-comma.comma ≡ 0) ⊎ (None ≡ argument_at c.args.slots.now c.loop-comma.at) =
    elim c.loop-comma-test.branch [
      | all_kinds-else-loop-comma-test w ↦ inl (omega arith)
      | all_kinds-then-loop-comma-test+in_default w ↦ inr (sym w.in_default.is ∙ w.argument_at.ensures)
    ] in
    last-added _ _ _ _ _ _ last _ (sym c.kinds-2.ensures ∙ c.in_ok-kinds-2.was) _ c.add-2.ensures ∙ c.loop-comma.invariant

pub kinds-returns-then-allowance-eq0 : goal.kinds-returns-then-allowance-eq0
unfolding tree_at kinds_of set_of single_of
kinds-returns-then-allowance-eq0 t c =
    rw c.if-allowance-eq0.true

pub kinds-returns-in-Literal : goal.kinds-returns-in-Literal
kinds-returns-in-Literal t c =
    rw (kinds-step _ _ _ _ _ c.if-allowance-eq0.false (sym c.in-Literal.is ∙ c.node_at.ensures), c.literal_kinds.ensures)

pub kinds-returns-in-Variable : goal.kinds-returns-in-Variable
kinds-returns-in-Variable t c =
    rw (kinds-step _ _ _ _ _ c.if-allowance-eq0.false (sym c.in-Variable.is ∙ c.node_at.ensures), c.set_at.ensures)

pub kinds-returns-in_err-set-in-Unary : goal.kinds-returns-in_err-set-in-Unary
kinds-returns-in_err-set-in-Unary t c =
    let p = err_from_is_err_and c.from_residual.result c.from_residual.ensures.1 in
    rw (p.1, p.2, kinds-step _ _ _ _ _ c.if-allowance-eq0.false (sym c.in-Unary.is ∙ c.node_at.ensures), ← c.kinds.ensures, c.in_err-set-in-Unary.was)

pub kinds-returns-in_ok-set-in-Unary : goal.kinds-returns-in_ok-set-in-Unary
kinds-returns-in_ok-set-in-Unary t c =
    rw (kinds-step _ _ _ _ _ c.if-allowance-eq0.false (sym c.in-Unary.is ∙ c.node_at.ensures), c.node.ensures, c.prefix_at.ensures, ← c.kinds.ensures, c.in_ok-set-in-Unary.was)

pub kinds-returns-in_err-left_set-in-Binary : goal.kinds-returns-in_err-left_set-in-Binary
kinds-returns-in_err-left_set-in-Binary t c =
    let p = err_from_is_err_and c.from_residual-in_err-left_set-in-Binary.result c.from_residual-in_err-left_set-in-Binary.ensures.1 in
    rw (p.1, p.2, kinds-step _ _ _ _ _ c.if-allowance-eq0.false (sym c.in-Binary.is ∙ c.node_at.ensures), ← c.kinds-in-Binary.ensures, c.in_err-left_set-in-Binary.was)

pub kinds-returns-in_err-right_set-in-Binary : goal.kinds-returns-in_err-right_set-in-Binary
kinds-returns-in_err-right_set-in-Binary t c =
    let p = err_from_is_err_and c.from_residual-in_err-right_set-in-Binary.result c.from_residual-in_err-right_set-in-Binary.ensures.1 in
    rw (p.1, p.2, kinds-step _ _ _ _ _ c.if-allowance-eq0.false (sym c.in-Binary.is ∙ c.node_at.ensures), ← c.kinds-in-Binary.ensures, c.in_ok-left_set-in-Binary.was, ← c.kinds-in-Binary-2.ensures, c.in_err-right_set-in-Binary.was)

pub kinds-returns-in_ok-right_set-in-Binary : goal.kinds-returns-in_ok-right_set-in-Binary
kinds-returns-in_ok-right_set-in-Binary t c =
    rw (kinds-step _ _ _ _ _ c.if-allowance-eq0.false (sym c.in-Binary.is ∙ c.node_at.ensures), c.node-in-Binary.ensures, c.infix_at.ensures, ← c.kinds-in-Binary.ensures, c.in_ok-left_set-in-Binary.was, ← c.kinds-in-Binary-2.ensures, c.in_ok-right_set-in-Binary.was)

pub kinds-returns-in_err-test_set-in-Conditional : goal.kinds-returns-in_err-test_set-in-Conditional
kinds-returns-in_err-test_set-in-Conditional t c =
    let p = err_from_is_err_and c.from_residual-in_err-test_set-in-Conditional.result c.from_residual-in_err-test_set-in-Conditional.ensures.1 in
    rw (p.1, p.2, kinds-step _ _ _ _ _ c.if-allowance-eq0.false (sym c.in-Conditional.is ∙ c.node_at.ensures), ← c.kinds-in-Conditional.ensures, c.in_err-test_set-in-Conditional.was)

pub kinds-returns-in_err-first_set-in-Conditional : goal.kinds-returns-in_err-first_set-in-Conditional
kinds-returns-in_err-first_set-in-Conditional t c =
    let p = err_from_is_err_and c.from_residual-in_err-first_set-in-Conditional.result c.from_residual-in_err-first_set-in-Conditional.ensures.1 in
    rw (p.1, p.2, kinds-step _ _ _ _ _ c.if-allowance-eq0.false (sym c.in-Conditional.is ∙ c.node_at.ensures), ← c.kinds-in-Conditional.ensures, c.in_ok-test_set-in-Conditional.was, ← c.kinds-in-Conditional-2.ensures, c.in_err-first_set-in-Conditional.was)

pub kinds-returns-in_err-second_set-in-Conditional : goal.kinds-returns-in_err-second_set-in-Conditional
kinds-returns-in_err-second_set-in-Conditional t c =
    let p = err_from_is_err_and c.from_residual-in_err-second_set-in-Conditional.result c.from_residual-in_err-second_set-in-Conditional.ensures.1 in
    rw (p.1, p.2, kinds-step _ _ _ _ _ c.if-allowance-eq0.false (sym c.in-Conditional.is ∙ c.node_at.ensures), ← c.kinds-in-Conditional.ensures, c.in_ok-test_set-in-Conditional.was, ← c.kinds-in-Conditional-2.ensures, c.in_ok-first_set-in-Conditional.was, ← c.kinds-in-Conditional-3.ensures, c.in_err-second_set-in-Conditional.was)

pub kinds-returns-in_ok-second_set-in-Conditional : goal.kinds-returns-in_ok-second_set-in-Conditional
kinds-returns-in_ok-second_set-in-Conditional t c =
    rw (kinds-step _ _ _ _ _ c.if-allowance-eq0.false (sym c.in-Conditional.is ∙ c.node_at.ensures), c.conditional.ensures, ← c.kinds-in-Conditional.ensures, c.in_ok-test_set-in-Conditional.was, ← c.kinds-in-Conditional-2.ensures, c.in_ok-first_set-in-Conditional.was, ← c.kinds-in-Conditional-3.ensures, c.in_ok-second_set-in-Conditional.was)

pub kinds-returns-in-Bare : goal.kinds-returns-in-Bare
kinds-returns-in-Bare t c =
    rw (kinds-step _ _ _ _ _ c.if-allowance-eq0.false (sym c.in-Bare.is ∙ c.node_at.ensures), c.node-in-Bare.ensures, c.function_at.ensures)

pub kinds-returns-in_err-parts-in-Call : goal.kinds-returns-in_err-parts-in-Call
kinds-returns-in_err-parts-in-Call t c =
    let p = err_from_is_err_and c.from_residual-in_err-parts-in-Call.result c.from_residual-in_err-parts-in-Call.ensures.1 in
    rw (p.1, p.2, kinds-step _ _ _ _ _ c.if-allowance-eq0.false (sym c.in-Call.is ∙ c.node_at.ensures), ← node-all, ← c.all_kinds.ensures, c.in_err-parts-in-Call.was)

pub kinds-returns-in_ok-parts-in-Call : goal.kinds-returns-in_ok-parts-in-Call
kinds-returns-in_ok-parts-in-Call t c =
    rw (kinds-step _ _ _ _ _ c.if-allowance-eq0.false (sym c.in-Call.is ∙ c.node_at.ensures), ← node-all, ← c.all_kinds.ensures, c.in_ok-parts-in-Call.was, c.node-in-Call.ensures, c.function_at-in-Call.ensures, c.as_slice.ensures)

pub kinds-returns-in_err-set-in-Pick : goal.kinds-returns-in_err-set-in-Pick
kinds-returns-in_err-set-in-Pick t c =
    let p = err_from_is_err_and c.from_residual-in_err-set-in-Pick.result c.from_residual-in_err-set-in-Pick.ensures.1 in
    rw (p.1, p.2, kinds-step _ _ _ _ _ c.if-allowance-eq0.false (sym c.in-Pick.is ∙ c.node_at.ensures), ← c.kinds-in-Pick.ensures, c.in_err-set-in-Pick.was)

pub kinds-returns-in_ok-set-in-Pick : goal.kinds-returns-in_ok-set-in-Pick
kinds-returns-in_ok-set-in-Pick t c =
    rw (kinds-step _ _ _ _ _ c.if-allowance-eq0.false (sym c.in-Pick.is ∙ c.node_at.ensures), c.node-in-Pick.ensures, c.pick_at.ensures, ← c.kinds-in-Pick.ensures, c.in_ok-set-in-Pick.was)
