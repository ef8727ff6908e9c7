pub mod Ready
pub mod Shared
