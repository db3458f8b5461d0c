pub mod Equal
pub mod Ways
pub mod Querying
