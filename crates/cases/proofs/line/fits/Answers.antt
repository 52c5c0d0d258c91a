use Rattle.std.proofs.Common.{◌∙◌, ne_eqb}
use Rattle.cases.proofs.Law.Lines.{fits_along, other_length}
use Rattle.cases.proofs.line.fits.Goals as goal

pub returns-then-line-form : goal.returns-then-line-form
returns-then-line-form c = c.fits_each.ensures ∙ fits_along _ _ c.if-line-form.true

pub returns-else-line-form : goal.returns-else-line-form
returns-else-line-form c = rw (ne_eqb _ _ c.if-line-form.false) (other_length _ _ c.if-line-form.false)
