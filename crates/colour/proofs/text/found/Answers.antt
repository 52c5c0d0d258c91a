use mathlib.Core.Bool.{true, false}
use mathlib.Core.Path.{refl, sym, ◌∙◌}
use lib.ListN.{drop_of_length-le}
use Rattle.colour.specs.Inner.{found}
use Rattle.colour.proofs.Law.Texts.{same-letters, here, elsewhere}
use Rattle.colour.proofs.text.found.Goals as goal

pub loop-word-init : goal.loop-word-init
loop-word-init c = refl

pub returns-then-eq_ignore_ascii_case : goal.returns-then-eq_ignore_ascii_case
returns-then-eq_ignore_ascii_case c =
    here _ _ _ _ c.loop-word-test.true (sym (same-letters true _ _ c.if-eq_ignore_ascii_case.ensures.test)) ∙ c.loop-word.invariant

pub loop-word-preserved : goal.loop-word-preserved
loop-word-preserved c =
    elsewhere _ _ _ _ c.loop-word-test.true (sym (same-letters false _ _ c.if-eq_ignore_ascii_case.ensures.test)) ∙ c.loop-word.invariant

pub returns : goal.returns
unfolding found
returns c =
    rw (drop_of_length-le c.args.table.now {i = c.loop-word.word-index} c.loop-word-test.false) at c.loop-word.invariant
