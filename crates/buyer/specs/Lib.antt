pub mod Panel
pub mod Fallback
pub mod FallbackFaults
pub mod Held
pub mod Places
