pub mod Answers
pub mod Places
pub mod Reading
pub mod Said
pub mod Views
pub mod Words
pub mod Xml
