pub mod Pool
pub mod Names
pub mod Kept
pub mod Taking
