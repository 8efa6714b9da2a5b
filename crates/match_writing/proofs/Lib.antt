-- The words of a prefix of a label, and labels copied one behind the other.
pub mod Places
pub mod Copies
