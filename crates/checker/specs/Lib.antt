pub mod Name
pub mod Property
pub mod Operator
pub mod Kinds
pub mod Check
pub mod Inner
