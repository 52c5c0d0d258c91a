-- Theorems about the definitions
pub mod Samples
pub mod Sizes
-- What the functions' proofs lean on
pub mod Law
