pub mod Given
pub mod Promise
pub mod Queries
pub mod Shown
