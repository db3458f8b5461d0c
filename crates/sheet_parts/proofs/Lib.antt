pub mod Means
pub mod Tokens
