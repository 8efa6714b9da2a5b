-- The call that cuts a stream from a store.
pub mod Cutting
-- Examples that the checker works through.
pub mod RefusalChecks
