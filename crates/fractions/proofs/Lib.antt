pub mod ReadTrees
pub mod Walks
pub mod Law
pub mod Whole
pub mod Unmoved
