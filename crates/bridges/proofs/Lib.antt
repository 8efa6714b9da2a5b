pub mod Options
pub mod Lists
