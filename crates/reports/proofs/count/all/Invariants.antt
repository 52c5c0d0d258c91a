-- The cases so far, and what their answers count.
use Rattle.std.proofs.Common.{◌≡◌, length, List, Bool, Some}
use Rattle.std.specs.List.{FoldsTo}
use Rattle.cases.specs.Tally.{tally_all}
use Rattle.reports.proofs.count.all.Given as goal

abbrev pub invariant-loop-done : goal.invariant-loop-done
invariant-loop-done g l =
    goal.F-IsAlwaysCallable g l.next
    × ((answers : List Bool) × FoldsTo (λ p agrees q. goal.F-step g p (Some agrees) q) l.initial.next answers l.next × (length answers ≡ l._done) × (l.tally ≡ tally_all answers))
