-- Masks by names, one node, the nodes that a leaf guides; a stream that passed, a leaf's stream, all streams.
pub mod ByName
pub mod Standing
pub mod Guiding
pub mod Streams
pub mod Leaves
pub mod Reading
