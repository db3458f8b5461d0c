pub mod Whole
pub mod Numbers
