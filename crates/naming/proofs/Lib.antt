-- Tables of names, and the files that they are read from.
pub mod Once
pub mod NameTables
pub mod NamePairs
pub mod PairRefusals
pub mod NameFiles
-- Examples that the checker works through.
pub mod Computing
pub mod Examples
