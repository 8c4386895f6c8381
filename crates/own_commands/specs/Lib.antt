pub mod Framing
pub mod Reminding
