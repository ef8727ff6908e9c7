pub mod Fault
pub mod Taking
