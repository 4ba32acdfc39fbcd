pub mod Meaning
pub mod Plan
pub mod Refusal
pub mod Room
