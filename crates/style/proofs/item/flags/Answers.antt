use mathlib.Core.Path.{◌∙◌, ap}
use Rattle.checker.specs.Property.{packed_of}
use Rattle.style.proofs.Law.Items.{flags-unknown, flags-known}
use Rattle.style.proofs.item.flags.Goals as goal

pub returns-in_default : goal.returns-in_default
returns-in_default c =
    flags-unknown c.args.line.now c.args.name c.args.kind c.requires _ c.nth-word.ensures.is _ c.flags_of.ensures c.in_default.is _ c.eight.ensures

pub returns : goal.returns
returns c =
    flags-known c.args.line.now c.args.name c.args.kind c.requires _ c.nth-word.ensures.is _ c.flags_of.ensures _ _ c.in-Some.is (c.packed.ensures ∙ ap packed_of c.kinds.ensures)
