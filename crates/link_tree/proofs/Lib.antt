mod Alone
mod Changes
mod Edits
mod Waits
mod Passes
