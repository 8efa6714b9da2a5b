-- Laws of twigs.
pub mod TwigBytes
pub mod TwigRefusals
-- Examples that the checker works through.
pub mod Computing
pub mod Examples
pub mod RefusalChecks
