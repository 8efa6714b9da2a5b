pub mod Words
pub mod Fours
