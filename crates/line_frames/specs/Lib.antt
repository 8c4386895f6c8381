pub mod Places
pub mod Frames
pub mod MemberLines
pub mod Lines
