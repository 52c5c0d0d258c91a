-- What the contracts name
pub mod Count
