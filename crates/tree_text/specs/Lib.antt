pub mod NameBytes
pub mod Text
pub mod Canonical
pub mod Room
pub mod Writing
