-- How a head is looked for while it is read: page 01, "What the painter reads" ("Everything before the first line whose first field is
-- `feat` is the head").
use Rattle.std.specs.Prelude.{cond, List, [], ◌∷◌, ℕ, suc, ◌+◌, ◌-◌, ltb, length, drop, Result, Ok, Err}
use Rattle.text.specs.Parts.{lines}
use Rattle.text.specs.Head.{is_feature}

-- The lines of so many bytes, from a place on: where the first begins that is a feature's, or how far they are known to be of the head. A line
-- that no LF ends may go on with the bytes to come.
abbrev pub search_in : ℕ → ℕ → List (List ℕ) → Result ℕ ℕ
search_in at size [] = Err at
search_in at size (l ∷ ls) =
    cond (ltb (length l) size)
    (cond (is_feature l) (Ok at) (search_in (at + suc (length l)) (size - suc (length l)) ls))
    (Err at)

unfoldable pub search_of : List ℕ → ℕ → Result ℕ ℕ
search_of window from = search_in from (length window - from) (lines (drop from window))
