pub mod Adjust
pub mod Refine
