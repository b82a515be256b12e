pub mod Held
pub mod All
