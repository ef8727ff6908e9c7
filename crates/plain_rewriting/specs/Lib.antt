pub mod Boxed
pub mod Noted
pub mod Program
pub mod OutwardSteps
