pub mod Values
pub mod Stands
pub mod Loads
pub mod Gathering
pub mod Sound
pub mod Reaches
pub mod Chains
pub mod Writes
pub mod Turning
pub mod Placing
pub mod Left
pub mod Ending
pub mod Compares
pub mod Begins
pub mod Sweeping
pub mod Whole
mod Worded
