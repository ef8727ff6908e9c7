pub mod Words
pub mod Form
pub mod Log
pub mod Filed
pub mod Verdict
