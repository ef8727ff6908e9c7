pub mod Arriving
pub mod CellCounts
pub mod Tables
pub mod Writings
