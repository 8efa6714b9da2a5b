-- What callers may use of shares; then the labels of a stream, names written, and the whole stream.
pub mod Shares
pub mod Labels
pub mod Rows
pub mod Reading
