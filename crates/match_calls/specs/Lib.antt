-- The call that matches streams.
pub mod Matching
-- Examples that the checker works through.
pub mod Examples
pub mod RefusalChecks
