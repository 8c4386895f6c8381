pub mod Paints
pub mod Merges
