-- Theorems about the definitions
pub mod Lacking
pub mod Choosing
pub mod AnyCount
-- What the functions' proofs lean on
pub mod Law
