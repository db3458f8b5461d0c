pub mod HeldTexts
pub mod Places
