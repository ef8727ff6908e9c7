pub mod Histories
pub mod Logged
pub mod Promise
pub mod Commands
