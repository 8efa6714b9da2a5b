-- Twigs and their checks.
pub mod Twigs
-- Examples that the checker works through.
pub mod Examples
pub mod RefusalChecks
