mod Points
mod Scores
pub mod Fits
pub mod Stages
