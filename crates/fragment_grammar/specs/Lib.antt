pub mod Grammar
pub mod Meaning
pub mod Reader
pub mod Stands
pub mod Faults
pub mod Figures
