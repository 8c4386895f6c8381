pub mod Lists
pub mod ReadCells
pub mod Words
pub mod Base64
pub mod Returning
pub mod NumberTexts
