-- The last arm of a match on a number, which knows that the number is none of those of the other arms.
use mathlib.Core.Path.{◌≡◌}
use Prim.Native.Nat.{ℕ, zero, suc, ◌≤◌}
use native.Mathlib.Omega.{arith}

-- a number that is none of those below k
abbrev pub Beyond : ℕ → ℕ → Type 0
Beyond zero n = Unit
Beyond (suc k) n = Beyond k n × (n ≡ k → ⊥)

pub above : (k n : ℕ) → Beyond k n → k ≤ n
above zero n h = omega arith
above (suc k) n h = omega (arith, above k n h.0, h.1)
