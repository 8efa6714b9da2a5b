-- Laws of entries and deletions.
pub mod Placed
pub mod Parents
pub mod Changes
pub mod Updates
-- Examples that the checker works through.
pub mod Computing
pub mod Examples
pub mod RefusalChecks
