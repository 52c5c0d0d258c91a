-- Bytes on a page, one behind the other: what lines are written by (page 01, "Refusal numbers": "writes its line at the front").
use Rattle.std.specs.Prelude.{◌≡◌, cond, List, [], ◌∷◌, ℕ, ◌+◌, ltb, length, set}
use Rattle.output.specs.declared.page.Page.{Page}

-- one byte more on a page, whose next byte goes to a place; on a full page it is left out
abbrev pub byte_on : List ℕ × ℕ → ℕ → List ℕ × ℕ
byte_on (page, at) b = cond (ltb at (length page)) (set page at b, at + 1) (page, at)

-- the bytes one behind the other
unfoldable pub written : List ℕ × ℕ → List ℕ → List ℕ × ℕ
written p [] = p
written p (b ∷ bs) = written (byte_on p b) bs

-- a page is another with some bytes more, in the same room
pub record Writes (old : Page) (bs : List ℕ) (new : Page) : Type 0 where
  pub page : (new.room.now, new.end) ≡ written (old.room.now, old.end) bs
  pub room : new.room.ghost_name ≡ old.room.ghost_name
