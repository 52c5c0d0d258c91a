pub mod Tree
pub mod Slots
pub mod Node
pub mod Fits
