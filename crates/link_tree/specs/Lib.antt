pub mod Trees
pub mod Waiting
pub mod Changing
pub mod Passing
