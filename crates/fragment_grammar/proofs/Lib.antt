pub mod Reading
pub mod NameReading
pub mod ItemReading
pub mod RowReading
pub mod Standing
