pub mod Faults
pub mod Maps
pub mod SameMap
pub mod Texts
pub mod Walks
pub mod Tilesets
