pub mod Spiral
pub mod Visit
pub mod Glide
pub mod Search
pub mod Pattern
pub mod Estimate
