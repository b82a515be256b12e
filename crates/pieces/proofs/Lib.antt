pub mod Numbers
pub mod Counting
pub mod Chains
pub mod Index
pub mod Rows
pub mod Paints
pub mod Bitmap
