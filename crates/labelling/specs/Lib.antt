-- Numbers and labels.
pub mod Numbers
pub mod Labels
-- Examples that the checker works through.
pub mod Examples
