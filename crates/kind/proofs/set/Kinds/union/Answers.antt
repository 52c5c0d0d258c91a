use mathlib.Core.Path.{refl}
use Rattle.kind.specs.Set.{set_of, union_of}
use Rattle.kind.proofs.set.Kinds.union.Goals as goal

-- `union` is the definition.
pub returns : goal.returns
unfolding set_of union_of
returns c = refl
