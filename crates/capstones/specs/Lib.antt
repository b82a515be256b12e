pub mod Blank
pub mod Modules
