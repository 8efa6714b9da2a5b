-- Laws of streams cut from a store.
pub mod AskedLabels
pub mod StreamWords
pub mod Listings
-- Examples that the checker works through.
pub mod Computing
pub mod RefusalChecks
