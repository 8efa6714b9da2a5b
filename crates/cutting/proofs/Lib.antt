-- Names and the stream from a record on, then labels written, then the answers.
pub mod Names
pub mod Streams
pub mod Outputs
pub mod Writing
pub mod Sound
pub mod Answers
