pub mod Files
pub mod Storing
pub mod Stored
pub mod Paths
pub mod Fuse
pub mod Asking
pub mod Answers
