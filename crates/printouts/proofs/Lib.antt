-- What is printed, by the facts of the three files.
pub mod Decimals
pub mod FileStores
pub mod Printable
-- Examples that the checker works through.
pub mod Computing
pub mod Examples
pub mod RefusalChecks
