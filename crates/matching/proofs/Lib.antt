-- Streams and what is found over them, then the answers.
pub mod Streams
pub mod Found
pub mod Answers
pub mod Sizes
