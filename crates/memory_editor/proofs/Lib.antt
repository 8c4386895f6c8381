mod Counting
mod Cutting
mod ManyLinesDone
mod Numbered
mod Pieces
mod Rows
pub mod OneMore
pub mod Shown
pub mod Unions
