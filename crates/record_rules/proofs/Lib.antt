pub mod Depths
pub mod Shared
pub mod Rules
pub mod Ready
