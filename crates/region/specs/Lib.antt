pub mod Cells
pub mod Equality
pub mod Runs
pub mod Stored
pub mod Walks
