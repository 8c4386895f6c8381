pub mod Crash
pub mod Saving
pub mod Note
pub mod TwoRuns
