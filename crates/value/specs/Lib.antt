pub mod Value
pub mod Scalar
pub mod Equality
pub mod Meaning
pub mod Name
