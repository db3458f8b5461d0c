pub mod Blocks
pub mod Flows
pub mod Wrongs
