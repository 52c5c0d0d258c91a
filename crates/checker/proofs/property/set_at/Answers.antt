use borrow.Author.Tests.{lt-ltb, le-ltb}
use Rattle.kind.specs.Set.{set_of, single_of}
use Rattle.plan.specs.Layout.{undeclared}
use Rattle.checker.specs.Property.{set_at}
use Rattle.checker.proofs.property.set_at.Goals as goal

pub returns-then-number-lt-UNDECLARED : goal.returns-then-number-lt-UNDECLARED
unfolding set_at
returns-then-number-lt-UNDECLARED c = rw (lt-ltb _ undeclared c.if-number-lt-UNDECLARED.true, c.unpacked.ensures)

pub returns-else-number-lt-UNDECLARED : goal.returns-else-number-lt-UNDECLARED
unfolding set_at single_of set_of
returns-else-number-lt-UNDECLARED c = rw (le-ltb _ undeclared c.if-number-lt-UNDECLARED.false)
