-- The book beside the store, its runs, and what a refused call leaves.
pub mod Book
pub mod RefusedCalls
