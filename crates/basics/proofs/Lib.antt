-- Laws of tests, orders, lists, checks and outputs.
pub mod Tests
pub mod Zeros
pub mod Orders
pub mod Lists
pub mod Scans
pub mod Leading
pub mod Ranges
pub mod Refusals
pub mod Outputs
-- Examples that the checker works through.
pub mod Computing
pub mod Examples
