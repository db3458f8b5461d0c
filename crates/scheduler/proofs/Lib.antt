pub mod Lengths
pub mod Reporting
pub mod Going
pub mod Turning
pub mod Stepping
pub mod Codes
pub mod Queries
