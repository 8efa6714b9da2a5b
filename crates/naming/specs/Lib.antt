-- Names, and what may stand below them.
pub mod Names
-- Examples that the checker works through.
pub mod Examples
