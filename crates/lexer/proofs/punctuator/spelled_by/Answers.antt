use mathlib.Core.Path.{refl, sym, ◌∙◌}
use mathlib.Core.List.{[], ◌∷◌}
use borrow.Author.Tests.{eq-eqb, ne_eqb}
use Rattle.lexer.specs.Punctuator.{spelled_by}
use Rattle.lexer.proofs.Law.Punctuators.{unlisted}
use Rattle.lexer.proofs.punctuator.spelled_by.Goals as goal
use Rattle.lexer.proofs.punctuator.spelled_by.Goals.{then-equals+else-d-eq61, else-equals, then-equals-3+else-d-eq61-2, else-equals-3}

pub returns-in-63 : goal.returns-in-63
unfolding spelled_by
returns-in-63 c = rw c.in-63.is

pub returns-in-58 : goal.returns-in-58
unfolding spelled_by
returns-in-58 c = rw c.in-58.is

pub returns-in-124 : goal.returns-in-124
unfolding spelled_by
returns-in-124 c = rw (c.if-c-b.true, c.in-124.is)

pub returns-in-38 : goal.returns-in-38
unfolding spelled_by
returns-in-38 c = rw (c.if-c-b-2.true, c.in-38.is)

pub returns-in-61 : goal.returns-in-61
unfolding spelled_by
returns-in-61 c = rw (c.if-equals.true, eq-eqb _ 61 c.if-d-eq61.true, c.in-61.is)

pub returns-in-61-2 : goal.returns-in-61-2
unfolding spelled_by
returns-in-61-2 c =
    elim c.if-equals.branch [
      | then-equals+else-d-eq61 w ↦ rw (c.if-equals-2.true, ne_eqb _ 61 w.if-d-eq61.false, c.in-61.is)
      | else-equals w ↦ absurd (cc)
    ]

pub returns-in-61-3 : goal.returns-in-61-3
unfolding spelled_by
returns-in-61-3 c = rw (ne_eqb _ 61 c.if-equals-2.false, eq-eqb _ 126 c.if-c-eq126.true, c.in-61.is)

pub returns-in-33 : goal.returns-in-33
unfolding spelled_by
returns-in-33 c = rw (c.if-equals-3.true, eq-eqb _ 61 c.if-d-eq61-2.true, c.in-33.is)

pub returns-in-33-2 : goal.returns-in-33-2
unfolding spelled_by
returns-in-33-2 c =
    elim c.if-equals-3.branch [
      | then-equals-3+else-d-eq61-2 w ↦ rw (c.if-equals-4.true, ne_eqb _ 61 w.if-d-eq61-2.false, c.in-33.is)
      | else-equals-3 w ↦ absurd (cc)
    ]

pub returns-in-33-3 : goal.returns-in-33-3
unfolding spelled_by
returns-in-33-3 c = rw (ne_eqb _ 61 c.if-equals-4.false, c.in-33.is)

pub returns-in-60 : goal.returns-in-60
unfolding spelled_by
returns-in-60 c = rw (c.if-equals-5.true, c.in-60.is)

pub returns-in-60-2 : goal.returns-in-60-2
unfolding spelled_by
returns-in-60-2 c = rw (ne_eqb _ 61 c.if-equals-5.false, c.in-60.is)

pub returns-in-62 : goal.returns-in-62
unfolding spelled_by
returns-in-62 c = rw (c.if-equals-6.true, c.in-62.is)

pub returns-in-62-2 : goal.returns-in-62-2
unfolding spelled_by
returns-in-62-2 c = rw (ne_eqb _ 61 c.if-equals-6.false, c.in-62.is)

pub returns-in-43 : goal.returns-in-43
unfolding spelled_by
returns-in-43 c = rw (c.if-c-b-3.true, c.in-43.is)

pub returns-in-43-2 : goal.returns-in-43-2
unfolding spelled_by
returns-in-43-2 c = rw (ne_eqb _ 43 (λ e. c.if-c-b-3.false (e ∙ sym c.in-43.is)), c.in-43.is)

pub returns-in-45 : goal.returns-in-45
unfolding spelled_by
returns-in-45 c = rw (c.if-c-b-4.true, c.in-45.is)

pub returns-in-45-2 : goal.returns-in-45-2
unfolding spelled_by
returns-in-45-2 c = rw (ne_eqb _ 45 (λ e. c.if-c-b-4.false (e ∙ sym c.in-45.is)), c.in-45.is)

pub returns-in-42 : goal.returns-in-42
unfolding spelled_by
returns-in-42 c = rw c.in-42.is

pub returns-in-47 : goal.returns-in-47
unfolding spelled_by
returns-in-47 c = rw c.in-47.is

pub returns-in-37 : goal.returns-in-37
unfolding spelled_by
returns-in-37 c = rw c.in-37.is

pub returns-in-40 : goal.returns-in-40
unfolding spelled_by
returns-in-40 c = rw c.in-40.is

pub returns-in-41 : goal.returns-in-41
unfolding spelled_by
returns-in-41 c = rw c.in-41.is

pub returns-in-91 : goal.returns-in-91
unfolding spelled_by
returns-in-91 c = rw c.in-91.is

pub returns-in-93 : goal.returns-in-93
unfolding spelled_by
returns-in-93 c = rw c.in-93.is

pub returns-in-44 : goal.returns-in-44
unfolding spelled_by
returns-in-44 c = rw c.in-44.is

pub returns-in-46 : goal.returns-in-46
unfolding spelled_by
returns-in-46 c = rw c.in-46.is

pub returns-in_default : goal.returns-in_default
unfolding spelled_by
returns-in_default c = rw (ne_eqb _ 124 (λ e. c.if-c-b.false (e ∙ sym c.in-124.is)), c.in-124.is)

pub returns-in_default-2 : goal.returns-in_default-2
unfolding spelled_by
returns-in_default-2 c = rw (ne_eqb _ 38 (λ e. c.if-c-b-2.false (e ∙ sym c.in-38.is)), c.in-38.is)

pub returns-in_default-3 : goal.returns-in_default-3
unfolding spelled_by
returns-in_default-3 c = rw (ne_eqb _ 61 c.if-equals-2.false, ne_eqb _ 126 c.if-c-eq126.false, c.in-61.is)

pub returns-in_default-4 : goal.returns-in_default-4
returns-in_default-4 c = unlisted (46 ∷ 44 ∷ 93 ∷ 91 ∷ 41 ∷ 40 ∷ 37 ∷ 47 ∷ 42 ∷ 45 ∷ 43 ∷ 62 ∷ 60 ∷ 33 ∷ 61 ∷ 38 ∷ 124 ∷ 58 ∷ 63 ∷ []) refl _ _ c.in_default.in_default-own.rest
