pub mod Made
pub mod Places
pub mod Runs
