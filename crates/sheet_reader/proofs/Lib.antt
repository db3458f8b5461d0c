pub mod Exits
pub mod Flows
pub mod Parts
