pub mod Dense
pub mod DenseLaws
pub mod Parts
pub mod Slot
pub mod Sparse
pub mod SparseLaws
