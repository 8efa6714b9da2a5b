pub mod Raises
pub mod Entries
pub mod Gifts
pub mod EntryAnswers
