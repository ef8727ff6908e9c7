pub mod CrowdFull
pub mod Nows
pub mod Since
