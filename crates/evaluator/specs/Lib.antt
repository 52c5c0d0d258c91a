pub mod Literal
pub mod Values
pub mod Eval
pub mod Entries
pub mod Arrays
pub mod Demand
pub mod Inner
pub mod Alike
