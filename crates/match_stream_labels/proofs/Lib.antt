-- Labels and ranks in streams.
pub mod Labels
pub mod Ranks
