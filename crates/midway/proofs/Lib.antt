pub mod Logs
pub mod Reports
pub mod Again
pub mod Midway
pub mod Ends
pub mod Short
pub mod Planning
