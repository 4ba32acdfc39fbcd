pub mod Bits
pub mod Card
pub mod Laws
pub mod Refusal
pub mod Writer
