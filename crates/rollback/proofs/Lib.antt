pub mod Bytes
pub mod Back
