pub mod Works
pub mod Lined
pub mod Lacking
pub mod Wearing
pub mod Drawn
