pub mod Running
pub mod Sharing
pub mod Filling
pub mod Numbers
pub mod Wearing
pub mod Fronts
pub mod Outcome
