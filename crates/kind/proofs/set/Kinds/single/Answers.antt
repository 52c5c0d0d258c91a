use Rattle.kind.specs.Set.{set_of, single_of}
use Rattle.kind.proofs.set.Kinds.single.Goals as goal

pub returns-in-Undefined : goal.returns-in-Undefined
unfolding set_of single_of
returns-in-Undefined c = rw c.in-Undefined.is

pub returns-in-Null : goal.returns-in-Null
unfolding set_of single_of
returns-in-Null c = rw c.in-Null.is

pub returns-in-Boolean : goal.returns-in-Boolean
unfolding set_of single_of
returns-in-Boolean c = rw c.in-Boolean.is

pub returns-in-Number : goal.returns-in-Number
unfolding set_of single_of
returns-in-Number c = rw c.in-Number.is

pub returns-in-String : goal.returns-in-String
unfolding set_of single_of
returns-in-String c = rw c.in-String.is

pub returns-in-Vec2 : goal.returns-in-Vec2
unfolding set_of single_of
returns-in-Vec2 c = rw c.in-Vec2.is

pub returns-in-Vec3 : goal.returns-in-Vec3
unfolding set_of single_of
returns-in-Vec3 c = rw c.in-Vec3.is

pub returns-in-Vec4 : goal.returns-in-Vec4
unfolding set_of single_of
returns-in-Vec4 c = rw c.in-Vec4.is
