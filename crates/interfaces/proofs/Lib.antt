pub mod Tables
pub mod Writes
pub mod Zeros
