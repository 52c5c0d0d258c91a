-- How long and how high an expression may be: page 01, "Sizes".
use Rattle.std.specs.Prelude.{ℕ}

-- "expression 1,024 bytes"
abbrev pub most_bytes : ℕ
most_bytes = 1024

-- "tree height 64"
abbrev pub most_height : ℕ
most_height = 64
