-- The head of an input: page 01, "What the painter reads" ("Everything before the first line whose first field is `feat` is the head; every
-- line from there on is a strip.").
use Rattle.std.specs.Prelude.{Bool, cond, List, [], ◌∷◌, ℕ, suc, ◌+◌, min, length}
use Rattle.text.specs.Parts.{lines, field}
use Rattle.text.specs.Word.{is_feature_word}

-- a "line whose first field is `feat`"
abbrev pub is_feature : List ℕ → Bool
is_feature line = is_feature_word (field line 0)

-- how many bytes the lines before the first such line have, with the LF that ends each
unfoldable pub before_features : List (List ℕ) → ℕ
before_features [] = 0
before_features (l ∷ ls) = cond (is_feature l) 0 (suc (length l + before_features ls))

-- "each ended by LF (the last may lack it)": no more than the input has
abbrev pub head_end : List ℕ → ℕ
head_end input = min (before_features (lines input)) (length input)
