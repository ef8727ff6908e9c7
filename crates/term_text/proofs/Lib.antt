pub mod Shapes
pub mod Writing
pub mod Rows
pub mod Counts
pub mod Paths
pub mod Going
pub mod Totals
pub mod Trying
