pub mod Line
pub mod Laws
pub mod Strategies
pub mod Written
pub mod Tracing
