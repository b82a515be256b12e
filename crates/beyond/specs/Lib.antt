pub mod Capped
pub mod Looks
pub mod Most
