pub mod Stones
pub mod Keeps
pub mod Few
