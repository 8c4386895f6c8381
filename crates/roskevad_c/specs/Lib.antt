pub mod Answers
pub mod Asides
pub mod Counts
pub mod Dialects
pub mod Held
pub mod Things
pub mod WordFaults
