pub mod Presence
pub mod Scalars
pub mod Cells
pub mod Arrays
pub mod Texts
pub mod Refusals
