pub mod NewDesks
pub mod Keys
pub mod Texts
