-- What all crates share: lists, limits, refusals, outputs, texts.
pub mod Basics
pub mod Limits
pub mod Refusals
pub mod Outputs
pub mod Texts
-- Examples that the checker works through.
pub mod Examples
