pub mod Parts
pub mod Densely
pub mod Positions
pub mod Slots
pub mod Sparsely
