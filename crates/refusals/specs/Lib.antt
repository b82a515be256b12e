pub mod Limits
pub mod Numbers
pub mod Finding
pub mod First
