pub mod Walking
pub mod Marking
