pub mod Colour
pub mod Text
pub mod Inner
