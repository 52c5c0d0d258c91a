use native.Mathlib.Nat.{zero-add}
use Rattle.text.specs.Name.{is_name}
use Rattle.text.proofs.name.is_name.Goals as goal

pub returns : goal.returns
unfolding is_name
returns c =
    rw (c.run_end.ensures, zero-add, c.is_name_length.ensures)
