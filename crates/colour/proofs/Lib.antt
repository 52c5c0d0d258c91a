-- Theorems about the definitions
pub mod Basics
-- What the functions' proofs lean on
pub mod Law
