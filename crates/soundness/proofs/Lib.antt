pub mod Fits
pub mod Shared
pub mod Trail
pub mod Pass
pub mod Scan
pub mod Tested
pub mod Checks
