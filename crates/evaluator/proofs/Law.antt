pub mod Variables
pub mod Texts
pub mod Outcomes
pub mod Trees
pub mod Tries
pub mod Calls
