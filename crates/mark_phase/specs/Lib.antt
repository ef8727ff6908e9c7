pub mod Reachable
pub mod Steps
