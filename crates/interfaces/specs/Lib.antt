pub mod Cells
pub mod Refusals
pub mod Tasks
pub mod Traces
pub mod Printing
pub mod Asks
pub mod Memory
