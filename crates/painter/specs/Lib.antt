pub mod Given
pub mod Meaning
pub mod Entries
pub mod Paint
-- What the functions promise to each other
pub mod Applied
-- The three demands
pub mod Demand
