pub mod Lookups
pub mod Ordering
