use Rattle.std.proofs.Common.{◌≡◌, ◌+◌, length, drop, get_or, ◌∷◌, sym, ap, ◌∙◌, arith}
use Rattle.number.specs.Decimal.{digits}
use Rattle.number.specs.Inner.{pushed_all}
use Rattle.number.proofs.Law.Reading.{digit-here, digit-stop, digit-past, gathered-stop}
use Rattle.number.proofs.decimal.leading_digits.Goals as goal

pub returns-then-not-is_digit : goal.returns-then-not-is_digit
returns-then-not-is_digit c =
    gathered-stop _ _ _ _ (digit-stop c.args.text.now c.loop-b.b-index c.loop-b-test.true (sym c.is_digit.ensures ∙ c.if-not-is_digit.true)) c.loop-b.invariant.count c.loop-b.invariant.value

pub loop-b-preserved : goal.loop-b-preserved
unfolding pushed_all
loop-b-preserved c =
    let e : digits (drop c.loop-b.b-index c.args.text.now) ≡ get_or c.args.text.now c.loop-b.b-index 0 ∷ digits (drop (c.loop-b.b-index + 1) c.args.text.now)
    = digit-here c.args.text.now c.loop-b.b-index c.loop-b-test.true (sym c.is_digit.ensures ∙ c.if-not-is_digit.false) in
    record {
      index = omega (arith, c.loop-b.invariant.index);
      count = omega (arith, c.loop-b.invariant.count, ap length e);
      value = rw c.push.ensures (sym (ap (pushed_all c.loop-b.read.value) e) ∙ c.loop-b.invariant.value);
    }

pub returns : goal.returns
returns c = gathered-stop _ _ _ _ (digit-past c.args.text.now c.loop-b.b-index c.loop-b-test.false) c.loop-b.invariant.count c.loop-b.invariant.value
