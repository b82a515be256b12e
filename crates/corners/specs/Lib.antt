pub mod Rows
pub mod Scores
pub mod Best
pub mod Finders
pub mod First
