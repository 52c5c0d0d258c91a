use Rattle.number.specs.Arithmetic.{mix_of}
use Rattle.std.proofs.Common.{refl}
use lib.Ieee.{of_bits}
use Rattle.number.proofs.arithmetic.mix.Goals as goal

-- `mix` is the definition, operation by operation.
pub returns : goal.returns
unfolding mix_of of_bits
returns c =
    refl
