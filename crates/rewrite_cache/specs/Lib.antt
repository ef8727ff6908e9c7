pub mod Cached
pub mod Facts
pub mod Laws
