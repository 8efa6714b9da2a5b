-- Sums and products cut at a cap.
pub mod Capped
