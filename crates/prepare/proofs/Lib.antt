pub mod Reciprocal
pub mod Runs
pub mod Shades
pub mod Bounds
pub mod Rows
pub mod Promise
pub mod Outcome
