pub mod Common
pub mod Gathered
pub mod Places
pub mod Forests
pub mod Fresh
pub mod Brought
pub mod Materials
pub mod Walk
