pub mod PropertyMaking
pub mod TilesetsAdded
pub mod Numbering
pub mod Settings
mod Removed
pub mod PropertyPuts
