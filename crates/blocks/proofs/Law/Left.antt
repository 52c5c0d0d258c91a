-- Where the bytes begin that are left of a block.
use mathlib.Core.Path.{◌≡◌}
use Prim.Native.Nat.{ℕ, suc, ◌-◌, ◌≤◌, ◌<◌, min}
use native.Mathlib.Omega.{arith}
use borrow.Author.Tests.{lt-ltb, le-ltb}
use Rattle.feature.specs.Feature.{feature_size}
use Rattle.blocks.specs.Block.{left_from}

module _ (at end size : ℕ) where
  -- an LF ends the next line
  pub left-whole : end < size → at ≡ left_from at end size
  unfolding left_from
  left-whole h = rw (lt-ltb end size h)

  -- none does
  pub left-some : size ≤ end → left_from at end size ≡ size - min (size - at) (suc feature_size)
  unfolding left_from
  left-some h = rw (le-ltb end size h)

  pub left-none : size ≤ end → size ≤ at → size ≡ left_from at end size
  left-none h k = omega (arith, left-some h)
