pub mod Building
pub mod Counting
pub mod Different
pub mod Failing
pub mod Listing
pub mod Packing
pub mod Unpacking
pub mod WritingLines
