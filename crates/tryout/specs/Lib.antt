pub mod Alias
pub mod AliasFaults
pub mod Ran
