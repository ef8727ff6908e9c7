pub mod Pendings
pub mod Ways
pub mod Spelling
pub mod Growing
pub mod Starts
