pub mod Source
pub mod Denominators
pub mod Whole
pub mod Pixels
pub mod Origin
pub mod Corners
