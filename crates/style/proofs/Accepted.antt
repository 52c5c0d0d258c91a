-- What is true of a style that a head gives, by the items of its lines: every expression was judged and checked, and by the names of that style, and the style is whole.
use mathlib.Core.Path.{◌≡◌, sym, ◌∙◌}
use mathlib.Core.List.{List}
use Prim.Native.Nat.{ℕ}
use Rattle.text.specs.Parts.{lines}
use Rattle.style.specs.Answer.{accepted}
use Rattle.style.specs.Style.{Style, empty}
use Rattle.style.specs.Item.{Item}
use Rattle.style.specs.Head.{head_of}
use Rattle.style.specs.Items.{Stand, items_from}
use Rattle.style.specs.Accepted.{AllStand, Whole}
use Rattle.style.proofs.Items.{items-stand, items-whole}
use Rattle.style.proofs.Lines.{gives-from, gives-stand, accepted-gives}

module _ (head : List ℕ) (s : Style) (h : head_of head ≡ accepted s) where
  items_of : (items : List Item) × Stand empty items × (items_from 1 empty items ≡ accepted s)
  unfolding head_of
  items_of =
      let (items, g) = accepted-gives (lines head) 1 empty s h in
      (items, gives-stand (lines head) items empty g, sym (gives-from (lines head) items 1 empty g) ∙ h)

  pub accepted-stand : AllStand s
  accepted-stand = let (items, stand, is) = items_of in items-stand items stand s is

  pub accepted-whole : Whole s
  accepted-whole = let (items, stand, is) = items_of in items-whole items stand s is
