pub mod Callers
pub mod Staying
