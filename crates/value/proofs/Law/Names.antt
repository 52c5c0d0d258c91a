-- Operations by their numbers, and members by their names.
use Rattle.std.specs.Prelude.{Option, Some, None}
use Rattle.std.specs.Option.{option_copied}
use Rattle.std.specs.Slice.{IsItemAt}
use denote.Bor.{Bor}
use lib.Seq.{drop-cons}
use mathlib.Core.Path.{◌≡◌, sym, ◌∙◌, ap}
use mathlib.Core.Bool.{false}
use mathlib.Core.List.{List, map}
use Prim.Native.Nat.{ℕ, ◌<◌, ◌≤◌, ◌%◌}
use borrow.Author.Tests.{lt-ltb, le-ltb}
use lib.ListN.{drop, drop_of_length-le}
use Rattle.lexer.specs.Bytes.{place_in}
use Rattle.words.specs.Table.{folded}
use Rattle.words.proofs.Law.Words.{as-it-is}
use Rattle.value.specs.Name.{first, member_names, member_index}
use Rattle.kind.specs.declared.operation.Operation.{Operation}

-- what a lookup by a number gives
pub looked_up : (os : List Operation) (n : ℕ) (r : Option (Bor Operation)) → IsItemAt os n r → option_copied r ≡ first (drop n os)
looked_up os n None h = ap first (sym (drop_of_length-le os h.3))
looked_up os n (Some x) h = rw (drop-cons os n x.now h.3.0) (ap Some h.1)

-- the index of a member from the place of its name
module _ (n : ℕ) (w : List ℕ) (e : n ≡ place_in member_names (map (folded false) w)) where
  placed : place_in member_names w ≡ n
  placed = sym (e ∙ ap (place_in member_names) (as-it-is w))

  pub index_below : n < 8 → n % 4 ≡ member_index w
  unfolding member_index
  index_below h = rw (placed, lt-ltb n 8 h)

  pub index-past : 8 ≤ n → 4 ≡ member_index w
  unfolding member_index
  index-past h = rw (placed, le-ltb n 8 h)
