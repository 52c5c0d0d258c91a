pub mod Field
pub mod Feature
pub mod Sample
-- What the functions promise to each other
pub mod Inner
