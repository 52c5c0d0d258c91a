-- Theorems about the definitions
pub mod Kinded
pub mod Naming
-- What the functions' proofs lean on
pub mod Law
