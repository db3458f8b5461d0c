pub mod Bytes
pub mod Runs
pub mod Sound
pub mod Places
