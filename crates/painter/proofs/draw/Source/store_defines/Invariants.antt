use Prim.Native.Nat.{min}
use Rattle.plan.specs.Layout.{most_defines, define_count, number_at}
use Rattle.painter.proofs.Law.Turns.{Storing}
use Rattle.painter.proofs.draw.Source.store_defines.Given as goal

abbrev pub invariant-loop-i : goal.invariant-loop-i
invariant-loop-i l =
    Storing l.self (min (number_at l.self.plan define_count) most_defines) l.initial.values l.values l.i
