pub mod Code
pub mod Coded
pub mod Depths
pub mod Ops
pub mod Spelled
