-- What the program prints, and when it refuses.
pub mod Printing
pub mod Printable
-- Examples that the checker works through.
pub mod Examples
pub mod RefusalChecks
