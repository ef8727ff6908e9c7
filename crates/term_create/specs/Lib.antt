pub mod Fitting
pub mod Counted
pub mod Stage
pub mod Ended
pub mod Created
pub mod Read
