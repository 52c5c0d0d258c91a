-- Theorems about the definitions
pub mod Plain
pub mod Power
pub mod Longest
-- What the functions' proofs lean on
pub mod Law
