use mathlib.Core.Path.{sym, ◌∙◌}
use mathlib.Core.Bool.{true}
use mathlib.Core.List.{map}
use lib.Ieee.{of_bits, of_int, div, round}
use Rattle.words.specs.Table.{folded}
use Rattle.colour.specs.Colour.{of_bytes, rgb_of, rgba_of}
use Rattle.colour.specs.Inner.{found}
use Rattle.colour.specs.Text.{basics, colour_at, colour_of}
use Rattle.colour.proofs.Law.Texts.{hash, place-named}
use Rattle.colour.proofs.colour.Colour.from_text.Goals as goal

pub returns-in-Some : goal.returns-in-Some
unfolding colour_of
returns-in-Some c =
    rw (sym (hash c.args.text.now), c.in-Some.ensures.cases.0, sym c.in-Some.ensures.cases.1) c.hex_text.ensures

pub returns-in-None : goal.returns-in-None
unfolding colour_of colour_at found of_bytes rgb_of rgba_of of_bits of_int div round
returns-in-None c =
    rw (sym (hash c.args.text.now), c.in-None.ensures.cases) (c.found.ensures ∙ sym (place-named basics (map (folded true) c.args.text.now)))
