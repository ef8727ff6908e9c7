pub mod Planned
pub mod Groups
pub mod Stands
pub mod Preorder
