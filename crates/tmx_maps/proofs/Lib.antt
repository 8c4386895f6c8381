pub mod Depths
pub mod TilesetDepths
