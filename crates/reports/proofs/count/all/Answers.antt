-- One case more: its answer stands behind the others.
use Rattle.std.proofs.Common.{of_calls, arith, length-append, [], ◌∷◌, ◌++◌, sym, ◌∙◌}
use Rattle.std.proofs.lemmas.Fn.{FoldsTo-push}
use Rattle.std.proofs.lemmas.List.Sums.{fold-append}
use Rattle.cases.specs.Tally.{tally_of, with_case}
use Rattle.reports.proofs.count.all.Goals as goal

pub loop-done-preserved : goal.loop-done-preserved
loop-done-preserved g c =
    let so_far = c.loop-done.invariant.1 in
    let agrees = c.in-Some.agrees in (
      search of_calls,
      (
        so_far.0 ++ agrees ∷ [],
        FoldsTo-push _ _ _ _ _ _ so_far.1 (rw c.in-Some.is at c.next.ensures),
        omega (arith, length-append so_far.0 (agrees ∷ [])),
        c.add-tally.ensures ∙ rw (c.of.ensures, so_far.3) (sym (fold-append with_case (tally_of 0 0) so_far.0 (agrees ∷ []))),
      ),
    )
