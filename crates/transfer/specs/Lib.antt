pub mod Span
pub mod Transfer
