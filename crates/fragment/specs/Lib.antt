pub mod Readings
pub mod Steps
pub mod Laws
