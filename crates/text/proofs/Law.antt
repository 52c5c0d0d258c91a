pub mod Heads
pub mod Parts
pub mod Words
