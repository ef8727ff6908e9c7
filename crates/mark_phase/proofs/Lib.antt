pub mod Counting
pub mod Visiting
