pub mod Changes
pub mod Extending
pub mod Names
pub mod Notes
