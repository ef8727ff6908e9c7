pub mod Numbers
pub mod Cutting
pub mod Reading
pub mod Whole
pub mod Built
pub mod BuiltOutermost
pub mod Good
