-- Records, and which of them are sound.
pub mod Store
-- Examples that the checker works through.
pub mod Examples
