pub mod Parts
pub mod Head
pub mod Name
pub mod Word
pub mod Slice
