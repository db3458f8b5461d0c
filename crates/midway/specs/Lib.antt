pub mod Planning
pub mod Midway
