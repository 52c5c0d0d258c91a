-- Theorems about the definitions: what a line gives that is read; that its strings lie in it; lines of samples are read as their values; values that are stored are read back
pub mod Conforming
pub mod Own
pub mod Samples
pub mod Filled
-- What the functions' proofs lean on
pub mod Law
