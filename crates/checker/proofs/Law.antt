pub mod Names
pub mod Tokens
pub mod Operators
pub mod Checks
