-- Names: page 01, "What the painter reads" ("Names are 1 to 64 letters, digits and underscores.").
use Rattle.std.specs.Prelude.{Bool, ◌&&◌, List, ℕ, eqb, length}
use Rattle.lexer.specs.Bytes.{is_name_byte, is_name_length, run}

-- the bytes of a name, up to the end
unfoldable pub is_name : List ℕ → Bool
unfolding run
is_name text = is_name_length (length text) && eqb (run is_name_byte text) (length text)
