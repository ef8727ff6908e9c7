pub mod Hash
pub mod Spelled
pub mod Worked
