pub mod Drives
pub mod Meanings
