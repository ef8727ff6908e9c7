pub mod Whole
pub mod Told
pub mod Costs
pub mod Reading
pub mod Remainders
pub mod Arguments
pub mod Views
mod Staged
