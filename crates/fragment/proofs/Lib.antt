pub mod Placing
pub mod Running
