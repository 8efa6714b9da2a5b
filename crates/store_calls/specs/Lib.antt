-- The calls that write into a store.
pub mod Updates
-- Examples that the checker works through.
pub mod RefusalChecks
pub mod Examples
