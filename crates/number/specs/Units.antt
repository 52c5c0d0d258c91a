-- A finite binary64 in units of the smallest, 2 ^ -1074: digits times two to a place. No promise of a public function names anything here.
use Rattle.std.specs.Prelude.{ℕ, ◌+◌, ◌*◌, ◌/◌, ◌%◌, ◌^◌, Bool, cond, ◌==◌, Float}
use lib.Ieee.Exact.{HasValue}

-- the exponent's field of a pattern
abbrev pub exponent_field : ℕ → ℕ
exponent_field b = b % 2 ^ 63 / 2 ^ 52

-- a field of 0 has no digit before those that are written
abbrev pub digits_of : ℕ → ℕ
digits_of b = cond (exponent_field b == 0) (b % 2 ^ 52) (2 ^ 52 + b % 2 ^ 52)

-- x has the sign s, and is d * 2 ^ p of the smallest number
abbrev pub HasUnits : Float → Bool → ℕ → ℕ → Type 0
HasUnits x s d p = HasValue x s (d * 2 ^ p) (2 ^ 1074)
