-- What the contracts name
pub mod Page
pub mod Line
pub mod Inner
