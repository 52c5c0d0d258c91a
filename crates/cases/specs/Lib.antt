-- What the contracts name
pub mod Line
pub mod Tally
