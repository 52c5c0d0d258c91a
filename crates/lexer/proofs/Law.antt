pub mod Runs
pub mod Punctuators
pub mod Forms
pub mod Ahead
pub mod Scanning
pub mod Spelling
pub mod Plain
pub mod Texts
