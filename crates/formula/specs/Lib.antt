pub mod Bytes
pub mod Grammar
pub mod Meaning
pub mod Reader
pub mod Own
pub mod Figures
