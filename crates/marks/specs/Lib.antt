pub mod InWork
pub mod Ring
pub mod Stone
pub mod Cuts
pub mod Search
pub mod OfBitmap
