pub mod Sure
pub mod Calls
pub mod Filled
pub mod Refusals
pub mod Comparing
pub mod TwoRuns
pub mod Careful
