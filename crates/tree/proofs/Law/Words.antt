-- A slot's tag and link, and what writing a slot leaves as it was.
use mathlib.Core.Path.{◌≡◌, refl, ◌∙◌}
use mathlib.Core.List.{List, [], ◌∷◌}
use Prim.Native.Nat.{ℕ, zero, suc, ◌-◌, ◌/◌, ◌%◌, ◌<◌}
use native.Mathlib.Omega.{arith}
use lib.ListN.{get_or}
use lib.Seq.{get_or-set_other}
use Rattle.tree.specs.Slots.{word, tag_at, set_link, join, put}

pub tag_word : (tag link : ℕ) → tag < 64 → word tag link / 1024 ≡ tag
tag_word tag link small = omega arith

pub link-word : (tag link : ℕ) → link < 1024 → word tag link % 1024 ≡ link
link-word tag link small = omega arith

-- another link leaves each tag
pub link_tag : (w : List ℕ) (at link i : ℕ) → tag_at w i < 64 → tag_at (set_link w at link) i ≡ tag_at w i
link_tag [] at link i small = refl
link_tag (y ∷ w) zero link zero small = tag_word (y / 1024) link small
link_tag (y ∷ w) zero link (suc i) small = refl
link_tag (y ∷ w) (suc at) link zero small = refl
link_tag (y ∷ w) (suc at) link (suc i) small = link_tag w at link i small

-- a node with parts on both sides leaves each slot but its own and the one before it
pub join-other : (w : List ℕ) (p tag left right i : ℕ) → (i ≡ p → ⊥) → (i ≡ p - 1 → ⊥) → get_or (join w p tag left right) i 0 ≡ get_or w i 0
join-other w p tag left right i n m =
    get_or-set_other (put w p tag right) (p - 1) i (word (tag_at (put w p tag right) (p - 1)) left) 0 m ∙ get_or-set_other w p i (word tag right) 0 n
