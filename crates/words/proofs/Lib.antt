-- Theorems about the definitions
pub mod Distinct
-- What the functions' proofs lean on
pub mod Law
