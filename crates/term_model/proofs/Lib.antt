pub mod Order
pub mod Shapes
pub mod Equality
pub mod Members
pub mod Subtrees
