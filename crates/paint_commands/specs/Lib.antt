pub mod Painting
pub mod Selection
pub mod Names
