pub mod Decimal
pub mod Rounding
pub mod Units
pub mod Arithmetic
pub mod Colour
pub mod Inner
