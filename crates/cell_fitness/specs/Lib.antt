pub mod Score
pub mod Seen
pub mod Along
pub mod Landed
pub mod Scores
