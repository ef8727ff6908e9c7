pub mod Stacks
pub mod Binding
pub mod Comes
pub mod Measures
pub mod Counts
pub mod OutwardSteps
