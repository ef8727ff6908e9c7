pub mod Dealing
pub mod Finding
pub mod Crewing
pub mod Gathering
pub mod Stopping
