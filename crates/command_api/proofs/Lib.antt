pub mod Links
pub mod Offering
pub mod Swaps
pub mod Tags
pub mod ShownHeads
pub mod Moves
