-- Theorems about the definitions: a tree that was written is read back
pub mod Back
-- What their proofs lean on
pub mod Law
