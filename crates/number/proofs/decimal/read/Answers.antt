use Rattle.std.proofs.Common.{◌≡◌, ◌+◌, drop, arith}
use Rattle.number.specs.Decimal.{fraction, with_point}
use Rattle.number.specs.Inner.{gathered}
use Rattle.number.proofs.Law.Reading.{whole_at, with_some, with_none, le-with_point, read-nothing, read_number, read-long, point-within, all-within}
use Rattle.number.proofs.decimal.read.Goals as goal
use Rattle.number.proofs.decimal.read.Goals.{then-all-eq0, else-all-eq0}

pub returns-then-whole-eq0 : goal.returns-then-whole-eq0
returns-then-whole-eq0 c =
    let ew : c.whole_part-whole.result ≡ gathered 0 (whole_at c.args.text.now c.args.at) = rw c.rest.ensures at c.whole_part-whole.ensures in
    read-nothing c.args.text.now c.args.at c.whole_part-whole.result ew c.if-whole-eq0.true

pub overflow_add-point : goal.overflow_add-point
overflow_add-point c =
    let ew : c.whole_part-whole.result ≡ gathered 0 (whole_at c.args.text.now c.args.at) = rw c.rest.ensures at c.whole_part-whole.ensures in
    omega (arith, point-within c.args.text.now c.args.at c.whole_part-whole.result ew c.if-whole-eq0.false)

pub overflow_add-end : goal.overflow_add-end
overflow_add-end c =
    let ew : c.whole_part-whole.result ≡ gathered 0 (whole_at c.args.text.now c.args.at) = rw c.rest.ensures at c.whole_part-whole.ensures in
    let ea : c.fraction-all.result ≡ gathered c.whole_part-whole.result.value (fraction (drop (c.args.at + c.whole_part-whole.result.count) c.args.text.now)) = rw c.rest-2.ensures at c.fraction-all.ensures in
    omega (arith, all-within c.args.text.now c.args.at c.whole_part-whole.result c.fraction-all.result ew ea c.if-whole-eq0.false, with_some _ c.if-all-eq0.false)

pub overflow_add-end-else-all-eq0 : goal.overflow_add-end-else-all-eq0
overflow_add-end-else-all-eq0 c =
    let ew : c.whole_part-whole.result ≡ gathered 0 (whole_at c.args.text.now c.args.at) = rw c.rest.ensures at c.whole_part-whole.ensures in
    let ea : c.fraction-all.result ≡ gathered c.whole_part-whole.result.value (fraction (drop (c.args.at + c.whole_part-whole.result.count) c.args.text.now)) = rw c.rest-2.ensures at c.fraction-all.ensures in
    omega (arith, all-within c.args.text.now c.args.at c.whole_part-whole.result c.fraction-all.result ew ea c.if-whole-eq0.false, with_some _ c.if-all-eq0.false)

pub overflow_add-whole : goal.overflow_add-whole
overflow_add-whole c =
    let ew : c.whole_part-whole.result ≡ gathered 0 (whole_at c.args.text.now c.args.at) = rw c.rest.ensures at c.whole_part-whole.ensures in
    let ea : c.fraction-all.result ≡ gathered c.whole_part-whole.result.value (fraction (drop (c.args.at + c.whole_part-whole.result.count) c.args.text.now)) = rw c.rest-2.ensures at c.fraction-all.ensures in
    omega (arith, all-within c.args.text.now c.args.at c.whole_part-whole.result c.fraction-all.result ew ea c.if-whole-eq0.false, le-with_point c.fraction-all.result.count)

pub returns-then-whole-all-le-MOST_DIGITS : goal.returns-then-whole-all-le-MOST_DIGITS
returns-then-whole-all-le-MOST_DIGITS c =
    let ew : c.whole_part-whole.result ≡ gathered 0 (whole_at c.args.text.now c.args.at) = rw c.rest.ensures at c.whole_part-whole.ensures in
    let ea : c.fraction-all.result ≡ gathered c.whole_part-whole.result.value (fraction (drop (c.args.at + c.whole_part-whole.result.count) c.args.text.now)) = rw c.rest-2.ensures at c.fraction-all.ensures in
    let e : c.if-all-eq0.end ≡ c.args.at + c.whole_part-whole.result.count + with_point c.fraction-all.result.count =
    elim c.if-all-eq0.branch [
      | then-all-eq0 w ↦ omega (arith, w.end-is, with_none _ w.if-all-eq0.true)
      | else-all-eq0 w ↦ omega (arith, w.end-is, with_some _ w.if-all-eq0.false)
    ] in
    read_number c.args.text.now c.args.at c.whole_part-whole.result c.fraction-all.result ew ea c.if-all-eq0.end e c.if-whole-eq0.false c.if-whole-all-le-MOST_DIGITS.true

pub returns-else-whole-all-le-MOST_DIGITS : goal.returns-else-whole-all-le-MOST_DIGITS
returns-else-whole-all-le-MOST_DIGITS c =
    let ew : c.whole_part-whole.result ≡ gathered 0 (whole_at c.args.text.now c.args.at) = rw c.rest.ensures at c.whole_part-whole.ensures in
    let ea : c.fraction-all.result ≡ gathered c.whole_part-whole.result.value (fraction (drop (c.args.at + c.whole_part-whole.result.count) c.args.text.now)) = rw c.rest-2.ensures at c.fraction-all.ensures in
    let e : c.if-all-eq0.end ≡ c.args.at + c.whole_part-whole.result.count + with_point c.fraction-all.result.count =
    elim c.if-all-eq0.branch [
      | then-all-eq0 w ↦ omega (arith, w.end-is, with_none _ w.if-all-eq0.true)
      | else-all-eq0 w ↦ omega (arith, w.end-is, with_some _ w.if-all-eq0.false)
    ] in
    read-long c.args.text.now c.args.at c.whole_part-whole.result c.fraction-all.result ew ea c.if-all-eq0.end e c.if-whole-eq0.false c.if-whole-all-le-MOST_DIGITS.false
