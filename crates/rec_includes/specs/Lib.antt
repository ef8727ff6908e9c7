pub mod Names
pub mod Material
pub mod Listing
pub mod Indexed
pub mod Numbered
pub mod Forest
pub mod Walk
