pub mod Fits
pub mod Verdicts
