-- Slices of the language, of which page 01 doesn't speak: what a part of one means that was lent and came back.
use Rattle.std.specs.Prelude.{List, ◌++◌, ℕ, ◌-◌, take, drop}

-- other elements in place of those from one place up to another
unfoldable pub put_back : List ℕ → ℕ → ℕ → List ℕ → List ℕ
put_back l from to part = take from l ++ (part ++ drop (to - from) (drop from l))
