pub mod Memory
pub mod Longest
pub mod Meant
