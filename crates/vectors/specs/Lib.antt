pub mod Words
pub mod Sums
pub mod Pictures
pub mod Checks
