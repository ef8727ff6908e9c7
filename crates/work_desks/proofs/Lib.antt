pub mod Making
pub mod Logging
pub mod LastKeys
