pub mod Passed
pub mod Judged
pub mod Colours
pub mod Bitmaps
