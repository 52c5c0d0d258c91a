use Prim.Native.Nat.{min}
use Rattle.plan.specs.Layout.{most_conditions, condition_count, number_at}
use Rattle.painter.specs.Applied.{row_value}
use Rattle.painter.proofs.Law.Turns.{Seeking}
use Rattle.painter.proofs.draw.Source.condition.Given as goal

abbrev pub invariant-loop-k : goal.invariant-loop-k
invariant-loop-k l =
    Seeking (row_value l.self l.values) (min (number_at l.self.plan condition_count) most_conditions) l.k
