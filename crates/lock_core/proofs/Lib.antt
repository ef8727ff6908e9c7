pub mod Seats
pub mod Kept
pub mod Appending
pub mod Decimals
pub mod Separated
pub mod StepTexts
pub mod OneOutcome
