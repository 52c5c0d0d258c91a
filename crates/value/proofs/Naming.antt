-- No name stands twice among the functions or among the members: each has its own number.
use mathlib.Core.Path.{◌≡◌}
use mathlib.Core.List.{[]}
use Prim.Native.Nat.{ℕ, ◌<◌}
use lib.ListN.{length, get_or}
use Rattle.lexer.specs.Bytes.{place_in}
use Rattle.words.proofs.Distinct.{number-of}
use Rattle.value.specs.Name.{function_names, member_names}

pub function-numbers : (n : ℕ) → n < length function_names → place_in function_names (get_or function_names n []) ≡ n
function-numbers = number-of function_names tt

pub member-numbers : (n : ℕ) → n < length member_names → place_in member_names (get_or member_names n []) ≡ n
member-numbers = number-of member_names tt
