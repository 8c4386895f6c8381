mod Levels
mod Loops
mod PlaceLaws
mod ReadLaws
mod SaidLaws
mod WordLaws
