pub mod Reading
pub mod Rightly
