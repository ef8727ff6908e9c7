pub mod Held
pub mod Pass
pub mod Seen
pub mod Passes
pub mod Code
pub mod Desk
pub mod Telling
pub mod Logged
