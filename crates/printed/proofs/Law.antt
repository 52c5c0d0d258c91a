pub mod Trees
pub mod Words
