pub mod Faults
pub mod Kinds
pub mod Opening
pub mod Saving
pub mod Tilesets
