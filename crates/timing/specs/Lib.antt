pub mod Changes
pub mod Counted
pub mod Measure
pub mod Ideal
