pub mod Children
pub mod Additions
