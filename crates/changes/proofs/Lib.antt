pub mod Splices
pub mod InUse
pub mod Checks
