pub mod Blocks
pub mod Rings
pub mod Pairings
pub mod Kept
pub mod Limits
