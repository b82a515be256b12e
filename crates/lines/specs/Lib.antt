pub mod Meet
pub mod Meaning
