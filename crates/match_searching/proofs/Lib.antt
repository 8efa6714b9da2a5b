-- What a search finds, then how it is answered.
pub mod Found
pub mod Fillings
