use Rattle.std.proofs.Common.{◌≡◌, ◌+◌, ◌*◌, ◌/◌, ◌^◌, ◌<◌, ◌∙◌, arith}
use lib.Ieee.{of_bits}
use Rattle.number.specs.Colour.{byte_of}
use Rattle.number.proofs.Law.Colour.{byte_low, byte_high, byte-range, byte-middle, long}
use Rattle.number.proofs.colour.byte.Goals as goal

-- `byte` is the definition: at both ends, and between them by a whole number of 2 ^ -61.
pub truncating_f64_to_u64-n-requires : goal.truncating_f64_to_u64-n-requires
unfolding of_bits
truncating_f64_to_u64-n-requires c =
    let held = byte-range c.args.c c.well_formed.0.1 c.if-c.true c.if-c-2.true in
    record { lower_bound = held.0; upper_bound = held.1 }

pub overflow_cast-result : goal.overflow_cast-result
unfolding of_bits
overflow_cast-result c = omega (arith, ((let middle' : (c.truncating_f64_to_u64-n.result < 2 ^ 61) × ((510 * c.truncating_f64_to_u64-n.result + 2 ^ 61) / 2 ^ 62 ≡ byte_of c.args.c) = let a = c in rw c.truncating_f64_to_u64-n.ensures (byte-middle a.args.c a.well_formed.0.1 c.if-c.true c.if-c-2.true) in middle')).0)

pub returns-then-c-2 : goal.returns-then-c-2
unfolding of_bits
returns-then-c-2 c = long c.truncating_f64_to_u64-n.result ∙ ((let middle' : (c.truncating_f64_to_u64-n.result < 2 ^ 61) × ((510 * c.truncating_f64_to_u64-n.result + 2 ^ 61) / 2 ^ 62 ≡ byte_of c.args.c) = let a = c in rw c.truncating_f64_to_u64-n.ensures (byte-middle a.args.c a.well_formed.0.1 c.if-c.true c.if-c-2.true) in middle')).1

pub returns-else-c-2 : goal.returns-else-c-2
unfolding of_bits
returns-else-c-2 c = byte_high c.args.c c.if-c.true c.if-c-2.false

pub returns-else-c : goal.returns-else-c
unfolding of_bits
returns-else-c c = byte_low c.args.c c.if-c.false
