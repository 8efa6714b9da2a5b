-- Twigs as text: the forms, reading, writing, and the tree in preorder.
pub mod Forms
pub mod Reading
pub mod Writing
pub mod Preorder
