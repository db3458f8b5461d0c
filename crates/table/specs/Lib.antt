pub mod Records
pub mod Marks
pub mod Walks
