-- The bytes and the nodes, then the name asked for.
pub mod Nodes
pub mod Asking
