pub mod Own
pub mod Values
pub mod Places
pub mod Rows
pub mod Given
pub mod Drawn
pub mod Turns
pub mod Calls
