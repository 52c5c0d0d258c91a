use mathlib.Core.Path.{◌≡◌}
use Prim.Native.Nat.{◌+◌, min}
use native.Mathlib.Omega.{arith}
use lib.ListN.{length}
use Rattle.evaluator.proofs.Law.Texts.{literal-cut}
use Rattle.evaluator.proofs.literal.literal.Goals as goal

pub returns : goal.returns
returns c =
    let e : c.min-place.result ≡ min (c.args.base + c.args.at) (length c.args.style.now) = omega arith in
    rw (c.literal_at.ensures, e) (literal-cut _ _ _)
