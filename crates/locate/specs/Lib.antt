pub mod Read
pub mod Prints
