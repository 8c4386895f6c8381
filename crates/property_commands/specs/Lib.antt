pub mod PropertyChanges
pub mod TilesetChanges
pub mod Names
pub mod Owners
pub mod PutEdits
