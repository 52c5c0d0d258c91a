use mathlib.Core.Path.{◌≡◌, ap, sym, ◌∙◌}
use mathlib.Core.Bool.{false≢true}
use Rattle.std.specs.Prelude.{Ok, Err, Result}
use Rattle.std.specs.Result.{MatchResult, is_ok}
use Rattle.syntax.proofs.Law.Whole.{grammar-goes}
use Rattle.syntax.proofs.judge.grammar_judgement.Goals as goal

-- what `map_err` leaves as it was
mapped-ok : {T E D : Type 0} {r : Result T E} {s : Result T D} {p : T} (Q : E → Type 0) → MatchResult r (λ x. s ≡ Ok x) Q → is_ok s ≡ is_ok r → s ≡ Ok p → r ≡ Ok p
mapped-ok {r = Ok x} Q h v e = cc
mapped-ok {r = Err y} Q h v e = absurd (false≢true (sym v ∙ ap is_ok e))

pub returns : goal.returns
returns c =
    let h = c.map_err.ensures in
    grammar-goes c.requires.0 c.requires.1 c.parse.ensures (mapped-ok _ h.cases h.variant c.in_ok-whole.was) c.tree_judgement.ensures
