pub mod Sums
pub mod Dark
mod Places
mod Shown
pub mod Decimals
pub mod Determined
