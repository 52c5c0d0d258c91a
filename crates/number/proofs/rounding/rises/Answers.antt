use Rattle.std.proofs.Common.{◌^◌, ◌<◌, arith}
use lib.Ieee.{of_bits}
use Rattle.number.proofs.Law.Rounding.{truncates, part-below, in-format, rises-small, rises-large}
use Rattle.number.proofs.rounding.rises.Goals as goal

pub truncating_f64_to_u64-n-requires : goal.truncating_f64_to_u64-n-requires
unfolding of_bits
truncating_f64_to_u64-n-requires c =
    let held = truncates c.args.x (rw c.abs-y.ensures at c.if-y.true) in
    rw c.abs-y.ensures (record { lower_bound = held.0; upper_bound = held.1 })

pub overflow_mul-middle : goal.overflow_mul-middle
unfolding of_bits
overflow_mul-middle c =
    let small : c.truncating_f64_to_u64-n.result < 2 ^ 52 = part-below c.args.x _ _ c.abs-y.ensures c.if-y.true c.truncating_f64_to_u64-n.ensures in
    omega arith

pub overflow_add-middle : goal.overflow_add-middle
unfolding of_bits
overflow_add-middle c =
    let small : c.truncating_f64_to_u64-n.result < 2 ^ 52 = part-below c.args.x _ _ c.abs-y.ensures c.if-y.true c.truncating_f64_to_u64-n.ensures in
    omega arith

pub int_to_float-middle : goal.int_to_float-middle
unfolding of_bits
int_to_float-middle c =
    let small : c.truncating_f64_to_u64-n.result < 2 ^ 52 = part-below c.args.x _ _ c.abs-y.ensures c.if-y.true c.truncating_f64_to_u64-n.ensures in
    in-format _ (omega arith)

pub returns-then-x : goal.returns-then-x
unfolding of_bits
returns-then-x c =
    rw (c.truncating_f64_to_u64-n.ensures, c.abs-y.ensures) (rw c.if-x.true at (rises-small c.args.x (rw c.abs-y.ensures at c.if-y.true)))

pub returns-else-x : goal.returns-else-x
unfolding of_bits
returns-else-x c =
    rw (c.truncating_f64_to_u64-n.ensures, c.abs-y.ensures) (rw c.if-x.false at (rises-small c.args.x (rw c.abs-y.ensures at c.if-y.true)))

pub returns : goal.returns
unfolding of_bits
returns c = rises-large c.args.x c.well_formed.0.1 (rw c.abs-y.ensures at c.if-y.false)
