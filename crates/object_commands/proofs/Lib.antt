pub mod Adding
pub mod Placements
pub mod Reparenting
