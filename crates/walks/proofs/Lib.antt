pub mod Element
pub mod Rows
