pub mod Afresh
pub mod Past
pub mod Law
pub mod Theorems
pub mod Sample
