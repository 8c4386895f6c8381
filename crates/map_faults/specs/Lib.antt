pub mod Faults
pub mod Tilesets
