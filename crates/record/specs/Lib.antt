pub mod Contents
pub mod Flags
pub mod Pdbr
pub mod Queue
pub mod View
