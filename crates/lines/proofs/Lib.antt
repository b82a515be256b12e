pub mod Bounds
pub mod Cramer
pub mod Cut
pub mod Meaning
