pub mod Places
pub mod Fractions
pub mod Aside
pub mod Back
pub mod Lines
