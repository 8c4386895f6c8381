pub mod EntryChanges
pub mod Sequences
pub mod Turns
pub mod Turnings
pub mod Steadiness
pub mod Gone
pub mod Views
pub mod Texts
mod Actions
pub mod Pushes
pub mod Nestings
mod Reported
mod Lent
pub mod Levels
pub mod Joins
pub mod Macros
pub mod Targets
pub mod Calm
pub mod Reports
pub mod Held
mod Turned
pub mod Told
pub mod Innermost
pub mod Sides
