pub mod Desks
pub mod Ends
pub mod Working
pub mod Worked
pub mod Shares
pub mod Outcome
pub mod Trials
