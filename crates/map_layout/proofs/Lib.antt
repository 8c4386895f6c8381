mod Digits
mod Reading
