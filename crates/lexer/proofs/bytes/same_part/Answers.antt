-- `same_part` compares the parts, their ends cut to their texts.
use mathlib.Core.Path.{◌∙◌}
use Prim.Native.Nat.{◌-◌}
use lib.ListN.{take, drop}
use Rattle.lexer.proofs.Law.Texts.{pointwise-same, part_cut}
use Rattle.lexer.proofs.bytes.same_part.Goals as goal

pub returns : goal.returns
returns c =
    let s = c.args in
    c.eq.ensures
    ∙ pointwise-same
    (take (c.min-stop.result - c.min-begin.result) (drop c.min-begin.result s.a.now))
    (take (c.min-last.result - c.min-first.result) (drop c.min-first.result s.b.now))
    ∙ rw (
      c.min-first.ensures,
      c.min-last.ensures,
      c.min-begin.ensures,
      c.min-stop.ensures,
      part_cut s.start s.end s.a.now,
      part_cut s.from s.to s.b.now,
    )
