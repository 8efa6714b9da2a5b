-- Laws of numbers given to children.
pub mod Number
pub mod Article
-- Laws of labels.
pub mod LabelOrder
pub mod Kinship
pub mod Decode
pub mod LabelWords
pub mod LabelCalls
-- Examples that the checker works through.
pub mod Computing
pub mod Examples
