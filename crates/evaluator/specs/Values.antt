-- The values of names, by the names' numbers: page 01, "Kinds and meaning" ("A value is of one of eight kinds").
use Rattle.std.specs.Prelude.{List, ℕ, get_or}
use Rattle.std.proofs.Math.ListN.{set}
use Rattle.value.specs.declared.value.Value.{Value}
use Rattle.value.specs.declared.value.Value.TheVariants.{Undefined}

-- There is a value for each number below that of an undeclared name, which has none.
abbrev pub value_at : List Value → ℕ → Value
value_at values n = get_or values n Undefined

-- the values with that of a number set; an undeclared name's changes nothing
abbrev pub stored : List Value → ℕ → Value → List Value
stored values n v = set values n v
