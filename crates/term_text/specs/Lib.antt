pub mod Text
pub mod Nodes
pub mod Works
pub mod Sizes
pub mod Tally
pub mod Clear
pub mod Trials
