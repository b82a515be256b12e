pub mod Beside
pub mod Turns
pub mod Orientation
pub mod Rotations
pub mod Flat
