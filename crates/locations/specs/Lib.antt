pub mod Held
pub mod Pass
