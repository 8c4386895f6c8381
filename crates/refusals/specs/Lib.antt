pub mod Layers
pub mod Words
