pub mod Outcomes
pub mod Settling
pub mod Promise
pub mod Lending
