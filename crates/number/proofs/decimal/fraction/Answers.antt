use Rattle.std.proofs.Common.{◌≡◌, get_or, ap, ◌∙◌, arith}
use lib.ListN.{get_or-eq_default}
use Rattle.number.specs.Inner.{gathered}
use Rattle.number.proofs.Law.Reading.{fraction-point, fraction-none}
use Rattle.number.proofs.decimal.fraction.Goals as goal

pub returns-in-46 : goal.returns-in-46
returns-in-46 c =
    let h : get_or c.args.text.now 0 0 ≡ 46 = omega arith in
    c.leading_digits.ensures ∙ ap (gathered c.args.value) (fraction-point c.args.text.now _ h (omega arith))

pub returns-in_default : goal.returns-in_default
returns-in_default c =
    let e : get_or c.args.text.now 0 0 ≡ 0 = get_or-eq_default c.args.text.now 0 (omega arith) in
    fraction-none c.args.text.now _ (λ h. omega arith)

pub returns-in_default-2 : goal.returns-in_default-2
returns-in_default-2 c = fraction-none c.args.text.now _ (λ h. omega arith)
