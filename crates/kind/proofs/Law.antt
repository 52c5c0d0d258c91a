pub mod Tests
pub mod Operations
pub mod Choices
pub mod Sets
pub mod Signatures
