pub mod Reach
pub mod Falling
pub mod Left
pub mod Answering
