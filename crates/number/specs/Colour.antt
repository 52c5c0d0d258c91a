-- A colour's component and its byte: page 01, "Kinds and meaning", the last paragraph.
use Rattle.std.specs.Prelude.{ℕ, ◌+◌, ◌*◌, ◌/◌, ◌<◌, ◌≤◌, min, cond, ◌||◌, is_nan, Float}
use Rattle.std.specs.Float.{nan, inf, fin}
use Rattle.std.specs.Float.Ieee.{up, down, lt}
use Rattle.std.specs.Float.Ieee.Positive.{num, den}
use Rattle.number.specs.Arithmetic.{nought, unit}

-- "each below 0 or NaN becomes 0, above 1 becomes 1"
unfoldable pub component_of : Float → Float
component_of x = cond (is_nan x || lt x nought) nought (cond (lt unit x) unit x)

-- "Its byte is the greatest whole number b up to 255 with b not above c times 255 plus 0.5, reckoned exactly."
-- A component is finite and not below 0: its value is the fraction num c / den c, and 255 c + 1/2 is (510 num c + den c) / (2 den c).
pub record IsByte (c : Float) (b : ℕ) : Type 0 where
  -- b - 1/2 ≤ 255 c
  pub reached : 2 * b * den c ≤ 510 * num c + den c
  pub limit : b ≤ 255
  -- the next is above, or past 255
  pub next : b < 255 → 510 * num c + den c < 2 * (b + 1) * den c

-- What `byte` works out: that number for every component (`byte-is` in proofs/Plain.antt), and beyond them the nearest end.
unfoldable pub byte_of : Float → ℕ
byte_of nan = 0
byte_of (inf s) = cond s 0 255
byte_of (fin s m e) = cond s 0 (min 255 ((510 * (m * up e) + down e) / (2 * down e)))
