pub mod Members
pub mod Depths
