-- The files, then the streams of leaves, then what is printed.
pub mod Files
pub mod Rooms
pub mod Leaves
pub mod Cuts
pub mod Buffers
pub mod Streams
pub mod Printed
pub mod Lists
pub mod Twigs
pub mod Stores
pub mod Program
