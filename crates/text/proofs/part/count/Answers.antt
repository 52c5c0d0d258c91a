use mathlib.Core.Path.{◌∙◌, ap}
use Prim.Native.Nat.{◌+◌}
use lib.Dec.{eqb}
use Rattle.std.proofs.Common.{rules, tests}
use Rattle.std.proofs.lemmas.Iterator.{YieldsList-from_slice}
use Rattle.std.proofs.lemmas.Iterator.Consumers.{count_from_yields_List, YieldsList-from_filter}
use Rattle.text.proofs.Law.Parts.{parted-count}
use Rattle.text.proofs.part.count.Goals as goal

pub returns : goal.returns
returns c =
    ap (λ n. 1 + n) (count_from_yields_List c.filter.result _ c.count.ensures.ran (YieldsList-from_filter _ (λ x. eqb x c.args.separator) (YieldsList-from_slice c.args.text.now cc) c.filter.ensures.closure (λ x r q k. search (rules, tests)))) ∙ parted-count c.args.separator c.args.text.now
