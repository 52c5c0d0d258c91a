-- Theorems about the definitions
pub mod Longest
pub mod Munch
pub mod Only
pub mod OnDemand
pub mod Printable
pub mod Found
pub mod Moved
pub mod Refusals
pub mod Parted
-- What the functions' proofs lean on
pub mod Law
