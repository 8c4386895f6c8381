pub mod Heads
pub mod Edits
pub mod Names
pub mod Changes
pub mod Objects
pub mod Layers
pub mod Tilesets
pub mod Maps
