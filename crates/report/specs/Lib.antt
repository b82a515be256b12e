pub mod Numbers
pub mod Lines
pub mod Puts
