-- `remainder`: by the fields of the two patterns.
use Rattle.std.proofs.Common.{sym, ◌∙◌}
use lib.Ieee.{of_bits, div}
use Rattle.number.proofs.Law.Compare.{only_nan}
use Rattle.number.proofs.Law.Units.{number-units, field-below, rem-special, rem-by-special, rem-by-nan, by-zero, by-far, by-near, holding, above}
use Rattle.number.proofs.arithmetic.remainder.Goals as goal

pub returns-then-exponent-eq-SPECIAL : goal.returns-then-exponent-eq-SPECIAL
unfolding of_bits div
returns-then-exponent-eq-SPECIAL c =
    sym (rem-special c.args.x c.args.y (holding c.well_formed.0.1) _ c.to_bits-a.ensures (sym c.exponent.ensures ∙ c.if-exponent-eq-SPECIAL.true))

pub returns-then-is_nan : goal.returns-then-is_nan
returns-then-is_nan c =
    let none = only_nan c.args.y (sym c.is_nan.ensures.value ∙ c.if-is_nan.true) in
    none ∙ sym (rem-by-nan c.args.x c.args.y none)

pub returns-else-is_nan : goal.returns-else-is_nan
returns-else-is_nan c =
    sym (rem-by-special c.args.x c.args.y _ _ _
    (number-units c.args.x (holding c.well_formed.0.1) _ c.to_bits-a.ensures (field-below _ (λ h. c.if-exponent-eq-SPECIAL.false (c.exponent.ensures ∙ h))))
    (holding c.well_formed.1.0.1) _ c.to_bits-b.ensures
    (sym c.exponent-2.ensures ∙ c.if-exponent-eq-SPECIAL-2.true)
    (sym c.is_nan.ensures.value ∙ c.if-is_nan.false))

pub returns-then-n-eq0 : goal.returns-then-n-eq0
unfolding of_bits div
returns-then-n-eq0 c =
    sym (by-zero c.args.x c.args.y (holding c.well_formed.0.1) (holding c.well_formed.1.0.1) _ _ c.to_bits-a.ensures c.to_bits-b.ensures
    (λ h. c.if-exponent-eq-SPECIAL.false (c.exponent.ensures ∙ h))
    (λ h. c.if-exponent-eq-SPECIAL-2.false (c.exponent-2.ensures ∙ h))
    (sym c.digits-n.ensures ∙ c.if-n-eq0.true))

pub returns-then-i-j : goal.returns-then-i-j
returns-then-i-j c =
    let lower = c.if-i-j.true in
    rw (c.number.ensures, c.is_negative.ensures, c.digits.ensures, c.place-i.ensures)
    (sym (by-far c.args.x c.args.y (holding c.well_formed.0.1) (holding c.well_formed.1.0.1) _ _ c.to_bits-a.ensures c.to_bits-b.ensures
    (λ h. c.if-exponent-eq-SPECIAL.false (c.exponent.ensures ∙ h))
    (λ h. c.if-exponent-eq-SPECIAL-2.false (c.exponent-2.ensures ∙ h))
    (above _ _ c.digits-n.ensures c.if-n-eq0.false)
    (rw (c.place-i.ensures, c.place-j.ensures) at lower)))

pub returns-else-i-j : goal.returns-else-i-j
returns-else-i-j c =
    let higher = c.if-i-j.false in
    rw (c.number-else-i-j.ensures, c.is_negative-else-i-j.ensures, c.reduced.ensures, c.digits-else-i-j.ensures, c.digits-n.ensures, c.place-i.ensures, c.place-j.ensures)
    (sym (by-near c.args.x c.args.y (holding c.well_formed.0.1) (holding c.well_formed.1.0.1) _ _ c.to_bits-a.ensures c.to_bits-b.ensures
    (λ h. c.if-exponent-eq-SPECIAL.false (c.exponent.ensures ∙ h))
    (λ h. c.if-exponent-eq-SPECIAL-2.false (c.exponent-2.ensures ∙ h))
    (above _ _ c.digits-n.ensures c.if-n-eq0.false)
    (rw (c.place-i.ensures, c.place-j.ensures) at higher)))
