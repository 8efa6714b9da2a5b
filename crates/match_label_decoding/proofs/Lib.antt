-- What callers may use of the names along a label; then the words of a stream, names led on, and one label.
pub mod Along
pub mod Words
pub mod Leading
pub mod Links
