pub mod Taken
pub mod Scratch
pub mod Kept
pub mod Determined
