pub mod Tell
pub mod Reach
