pub mod ReadBack
pub mod Whole
pub mod Told
pub mod Good
