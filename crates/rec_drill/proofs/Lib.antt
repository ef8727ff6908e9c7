pub mod Numerals
pub mod TermLines
pub mod Lengths
pub mod Cutting
