-- Laws of streams in a buffer.
pub mod Buffers
pub mod StreamChecks
pub mod StreamFacts
-- Examples that the checker works through.
pub mod Computing
pub mod Examples
pub mod RefusalChecks
