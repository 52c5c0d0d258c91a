-- Colours: page 01, "Kinds and meaning" (`rgb`, `rgba`, and the last paragraph).
use Rattle.std.specs.Prelude.{ℕ, pos, Float}
use Rattle.std.specs.Float.{binary64}
use Rattle.std.specs.Float.Ieee.{div, of_int}
use Rattle.number.specs.Arithmetic.{unit}
use Rattle.number.specs.Colour.{component_of, byte_of}
use Rattle.colour.specs.declared.colour.Colour.{Colour}
use Rattle.colour.specs.declared.colour.Rgba8.{Rgba8}

-- 255
abbrev pub full : Float
full = of_int binary64 (pos 255)

-- "`rgb`, `rgba`: Numbers, the first three divided by 255."
unfoldable pub rgba_of : Float → Float → Float → Float → Colour
rgba_of r g b a = record { red = div binary64 r full; green = div binary64 g full; blue = div binary64 b full; alpha = a }

unfoldable pub rgb_of : Float → Float → Float → Colour
unfolding rgba_of
rgb_of r g b = rgba_of r g b unit

-- "each byte divided by 255"
unfoldable pub of_bytes : ℕ → ℕ → ℕ → Colour
unfolding rgb_of
of_bytes r g b = rgb_of (of_int binary64 (pos r)) (of_int binary64 (pos g)) (of_int binary64 (pos b))

unfoldable pub with_alpha : Colour → Float → Colour
with_alpha c a = record { red = c.red; green = c.green; blue = c.blue; alpha = a }

-- "each below 0 or NaN becomes 0, above 1 becomes 1"
unfoldable pub clamped_of : Colour → Colour
clamped_of c =
    record { red = component_of c.red; green = component_of c.green; blue = component_of c.blue; alpha = component_of c.alpha }

-- "Its byte is .." of each number that is so clamped
unfoldable pub bytes_of : Colour → Rgba8
bytes_of c =
    record {
      red = byte_of (component_of c.red);
      green = byte_of (component_of c.green);
      blue = byte_of (component_of c.blue);
      alpha = byte_of (component_of c.alpha);
    }
