pub mod Deletions
pub mod DeletionAnswers
