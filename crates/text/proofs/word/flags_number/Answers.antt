use mathlib.Core.Path.{sym, ◌∙◌}
use mathlib.Core.List.{[], ◌∷◌}
use Rattle.lexer.proofs.Law.Texts.{pointwise-same}
use Rattle.text.proofs.Law.Words.{no-flags, letter-flags}
use Rattle.text.proofs.word.flags_number.Goals as goal

pub returns-then-eq : goal.returns-then-eq
returns-then-eq c =
    no-flags c.args.word.now (sym (rw (c.eq.ensures, c.as_slice.ensures) (pointwise-same c.args.word.now (45 ∷ []))) ∙ c.if-eq.true)

pub returns-else-eq : goal.returns-else-eq
returns-else-eq c =
    letter-flags c.args.word.now _ (sym (rw (c.eq.ensures, c.as_slice.ensures) (pointwise-same c.args.word.now (45 ∷ []))) ∙ c.if-eq.false) c.number_in.ensures
