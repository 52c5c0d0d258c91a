-- A value that is stored for a number is read for it again, and the values of other numbers stay.
use mathlib.Core.Path.{◌≡◌}
use mathlib.Core.List.{List}
use Prim.Native.Nat.{ℕ, ◌<◌}
use lib.ListN.{length, length-set}
use lib.Seq.{get_or-set_same, get_or-set_other}
use Rattle.value.specs.declared.value.Value.{Value}
use Rattle.value.specs.declared.value.Value.TheVariants.{Undefined}
use Rattle.evaluator.specs.Values.{value_at, stored}

pub stored_back : (values : List Value) (n : ℕ) (v : Value) → n < length values → value_at (stored values n v) n ≡ v
stored_back values n v h = get_or-set_same values n v Undefined h

pub stored-others : (values : List Value) (n : ℕ) (v : Value) (m : ℕ) → (m ≡ n → ⊥) → value_at (stored values n v) m ≡ value_at values m
stored-others values n v m differ = get_or-set_other values n m v Undefined differ

pub stored-length : (values : List Value) (n : ℕ) (v : Value) → length (stored values n v) ≡ length values
stored-length values n v = length-set values n v
