pub mod Verdict
pub mod Sides
pub mod Colour
pub mod Bitmap
