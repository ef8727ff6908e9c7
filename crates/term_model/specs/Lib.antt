pub mod Tree
pub mod Postorder
pub mod Shape
pub mod Code
pub mod Laws
