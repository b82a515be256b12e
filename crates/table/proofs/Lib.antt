pub mod Sought
pub mod Marks
pub mod Seeds
pub mod Times
pub mod Exact
pub mod Kept
pub mod Entries
pub mod Written
