pub mod Answer
pub mod Style
pub mod Expression
pub mod Item
pub mod Head
pub mod Items
pub mod Schema
pub mod Compile
pub mod Holds
pub mod Accepted
-- What the functions promise to each other
pub mod Inner
