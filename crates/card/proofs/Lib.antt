pub mod Cards
pub mod Fields
pub mod Packs
pub mod Runs
pub mod Streams
pub mod Trips
