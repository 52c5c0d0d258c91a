use mathlib.Core.Path.{refl}
use Rattle.checker.specs.Property.{unpacked_of}
use Rattle.checker.proofs.property.unpacked.Goals as goal

-- `unpacked` is the definition.
pub returns : goal.returns
unfolding unpacked_of
returns c = refl
