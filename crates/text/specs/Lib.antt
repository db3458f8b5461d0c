pub mod Text
pub mod Packing
pub mod Every
pub mod Words
