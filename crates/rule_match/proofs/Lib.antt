pub mod Waiting
pub mod Compiled
pub mod Pending
pub mod Bindings
pub mod Pushing
pub mod Skipping
pub mod Links
pub mod Numbering
