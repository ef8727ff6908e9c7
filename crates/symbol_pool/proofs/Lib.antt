pub mod Places
pub mod Pools
pub mod Grown
pub mod Taking
