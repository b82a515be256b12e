mod Shares
pub mod Ideal
