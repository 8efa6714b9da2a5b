pub mod NewStore
