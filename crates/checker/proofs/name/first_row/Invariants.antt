use mathlib.Core.Path.{◌≡◌}
use Prim.Native.Nat.{◌-◌}
use Rattle.lexer.specs.Bytes.{same}
use Rattle.checker.specs.Name.{row_at, first_row}
use Rattle.checker.proofs.name.first_row.Given as goal

-- The invariant: the first row from the present one on is the first of all.
abbrev pub invariant-loop-row : goal.invariant-loop-row
invariant-loop-row l =
    first_row (λ i. same l.name (row_at l.head l.names i)) (l.to - l.row) l.row ≡ first_row (λ i. same l.name (row_at l.head l.names i)) (l.to - l.from) l.from
