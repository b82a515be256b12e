pub mod Threshold
pub mod Run
pub mod Prepared
