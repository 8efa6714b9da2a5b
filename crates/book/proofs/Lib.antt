-- Laws of the book and of its runs.
pub mod InOrder
pub mod Good
pub mod Sound
pub mod Placing
pub mod Calls
pub mod Answers
pub mod Run
