pub mod Keeping
pub mod Ends
pub mod Pushing
pub mod Numbers
