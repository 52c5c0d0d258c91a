use Rattle.kind.specs.Set.{set_of, single_of}
use Rattle.checker.proofs.check.conditional.Goals as goal

pub returns-then-is_within : goal.returns-then-is_within
unfolding set_of single_of
returns-then-is_within c = rw (c.union.ensures, ← c.is_within.ensures, c.if-is_within.true)

pub returns-else-is_within : goal.returns-else-is_within
unfolding set_of single_of
returns-else-is_within c = rw (c.wrong.ensures, ← c.is_within.ensures, c.if-is_within.false)
