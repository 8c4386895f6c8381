pub mod Editors
pub mod Planning
pub mod MorePlanning
pub mod Turns
pub mod Asking
pub mod Kinds
pub mod MoreKinds
