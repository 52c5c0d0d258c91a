pub mod Words
pub mod Arms
