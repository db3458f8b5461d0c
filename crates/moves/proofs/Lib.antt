pub mod Places
pub mod Seeing
