pub mod Lock
pub mod Exclusion
pub mod Schedule
pub mod StateText
pub mod Lines
