pub mod Bound
pub mod Left
pub mod Pushed
pub mod Room
