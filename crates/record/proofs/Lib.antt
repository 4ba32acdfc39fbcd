pub mod Flags
pub mod Lists
pub mod Queues
pub mod Same
pub mod Views
