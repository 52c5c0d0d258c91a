use mathlib.Core.Path.{refl}
use Rattle.colour.specs.Colour.{with_alpha}
use Rattle.colour.proofs.colour.Colour.with_alpha.Goals as goal

-- `with_alpha` is the definition.
pub returns : goal.returns
unfolding with_alpha
returns c =
    refl
