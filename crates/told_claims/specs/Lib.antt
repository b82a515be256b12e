pub mod Claims
pub mod Rows
