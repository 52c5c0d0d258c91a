pub mod Kind
pub mod Operation
pub mod Rule
pub mod Set
pub mod Choice
pub mod Inner
