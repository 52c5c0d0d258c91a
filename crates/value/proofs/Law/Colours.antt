-- White, as its number is read and as it is made from bytes.
use Rattle.std.specs.Prelude.{Option, Some, None}
use Rattle.std.specs.Option.{unwrap_or}
use mathlib.Core.Path.{◌≡◌, refl}
use mathlib.Core.Bool.{false}
use lib.IntN.{pos}
use lib.Ieee.{Float, fin, of_bits, of_int, div, round}
use Rattle.colour.specs.Colour.{of_bytes, rgb_of, rgba_of}
use Rattle.colour.specs.declared.colour.Colour.{Colour}
use mathlib.Core.List.{List}
use Prim.Native.Nat.{ℕ}
use Rattle.value.specs.Meaning.{white, or_white, color_of}
use Rattle.value.specs.declared.value.Span.{Span}
use Rattle.value.specs.declared.value.Value.{Value}
use Rattle.value.specs.declared.value.Value.TheVariants.{Undefined, Null, Boolean, Number, String, Vec2, Vec3, Vec4}

abbrev one : Float
one = fin false 1 (pos 0)

abbrev pub constant : Colour
constant = record { red = one; green = one; blue = one; alpha = one }

pub white_is : constant ≡ white
unfolding of_bytes rgb_of rgba_of of_bits of_int div round
white_is = refl

pub named_or : (named : Option Colour) → unwrap_or named constant ≡ or_white named
named_or None = white_is
named_or (Some c) = refl

-- what is no String names no colour
pub colourless : (text : Span → List ℕ) (a b : Value) → ((s : Span) → a ≡ String s → ⊥) → constant ≡ color_of text a b
unfolding color_of
colourless text Undefined b h = white_is
colourless text Null b h = white_is
colourless text (Boolean t) b h = white_is
colourless text (Number x) b h = white_is
colourless text (String s) b h = absurd (h s refl)
colourless text (Vec2 x y) b h = white_is
colourless text (Vec3 x y z) b h = white_is
colourless text (Vec4 x y z w) b h = white_is
