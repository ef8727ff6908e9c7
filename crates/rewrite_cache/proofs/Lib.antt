pub mod Alike
pub mod Joined
pub mod Least
pub mod Worked
