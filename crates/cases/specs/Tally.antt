-- Counts of cases and of differences.
use Rattle.std.specs.Prelude.{ℕ, ◌+◌, ◌%◌, ◌^◌, Bool, true, false, Option, Some, None, List}
use Rattle.std.specs.List.{fold}
use Rattle.cases.specs.declared.tally.Tally.{Tally}

-- so many cases, and so many that differ
abbrev pub tally_of : ℕ → ℕ → Tally
tally_of c d = record { cases = c; differences = d }

-- counts have 64 bits, and wrap
abbrev pub sum_of : Tally → Tally → Tally
sum_of a b = tally_of ((a.cases + b.cases) % 2 ^ 64) ((a.differences + b.differences) % 2 ^ 64)

-- what an answer counts, which is whether a case agrees: at the end there is no case
abbrev pub counted : Option Bool → Tally
counted None = tally_of 0 0
counted (Some true) = tally_of 1 0
counted (Some false) = tally_of 1 1

-- with what came of one case more
abbrev pub with_case : Tally → Bool → Tally
with_case t agrees = sum_of t (counted (Some agrees))

-- the cases of a file whose answers are these, in order
abbrev pub tally_all : List Bool → Tally
tally_all answers = fold with_case (tally_of 0 0) answers
