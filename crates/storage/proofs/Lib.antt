-- The words of a store, and which stores are sound.
pub mod Words
pub mod Relaid
pub mod Finding
pub mod Rules
pub mod Sizes
pub mod Faults
pub mod Torn
pub mod SoundStore
-- Examples that the checker works through.
pub mod Computing
pub mod Examples
