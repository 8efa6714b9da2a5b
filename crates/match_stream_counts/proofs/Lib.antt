pub mod Counts
pub mod Streams
