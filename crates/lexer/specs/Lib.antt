pub mod Refusal
pub mod Bytes
pub mod Punctuator
pub mod Token
pub mod Spelling
pub mod Tokens
pub mod Scan
pub mod Inner
