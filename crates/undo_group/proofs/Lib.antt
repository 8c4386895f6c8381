pub mod Documents
pub mod Entries
pub mod Lookups
pub mod NamedStacks
pub mod Ordered
pub mod OrderedDocuments
pub mod Shifting
