mod Flat
mod RowWalks
mod Subjects
