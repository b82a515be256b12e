pub mod Numbers
mod Steps
pub mod Feeding
mod Whole
mod Accepted
pub mod Told
mod Examples
