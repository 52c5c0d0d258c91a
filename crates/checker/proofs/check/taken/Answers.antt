use Rattle.kind.specs.Set.{set_of, single_of}
use Rattle.checker.proofs.check.taken.Goals as goal

pub returns-in-Boolean : goal.returns-in-Boolean
unfolding set_of single_of
returns-in-Boolean c = rw c.in-Boolean.is

pub returns-in-Vec4 : goal.returns-in-Vec4
unfolding set_of single_of
returns-in-Vec4 c = rw c.in-Vec4.is

pub returns-in-Any : goal.returns-in-Any
unfolding set_of single_of
returns-in-Any c = rw c.in-Any.is
