pub mod Dealt
pub mod Crews
pub mod Gathered
