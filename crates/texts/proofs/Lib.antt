-- What words hold, bytes written into a text, how many bytes there are, then labels, lines, refusals and matches.
pub mod Words
pub mod Texts
pub mod Digits
pub mod Joined
pub mod Rooms
pub mod LabelTexts
pub mod LineTexts
pub mod RefusalTexts
pub mod MatchTexts
