use mathlib.Core.Path.{refl}
use Rattle.kind.specs.Set.{set_of, single_of}
use Rattle.checker.specs.Property.{packed_of}
use Rattle.style.specs.Compile.{fresh_plan}
use Rattle.style.proofs.head.fresh.Goals as goal

pub returns : goal.returns
unfolding fresh_plan packed_of single_of set_of
returns c =
    rw (c.fill.ensures.after (λ y e. e)) refl
