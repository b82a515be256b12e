pub mod Value
pub mod Step
pub mod Zeros
pub mod Steps
pub mod Finite
