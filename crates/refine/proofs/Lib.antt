pub mod Steps
mod Capped
pub mod Earned
pub mod Alike
pub mod Determined
